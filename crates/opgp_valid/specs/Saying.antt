-- What signatures say together of a key.
use Rattle.std.specs.Prelude.{ℕ, Bool, true, false, ◌&&◌, ◌||◌, List, [], ◌∷◌, ◌++◌}
use Rattle.std.specs.List.{list_all, list_any}
use Rattle.opgp_valid.specs.declared.saying.Saying.{Saying}
use Rattle.opgp_valid.specs.declared.statement.Statement.{Statement}
use Rattle.opgp_valid.specs.Speaking.{end_in, sooner, uses_in}
use Rattle.opgp_valid.specs.Statement.{has_back}
use Rattle.opgp_valid.specs.Uses.{both}

abbrev pub is_nonempty : List Statement → Bool
is_nonempty [] = false
is_nonempty (s ∷ ss) = true

-- of a key that was created then, at a time
abbrev pub saying_of : ℕ → ℕ → List Statement → Saying
saying_of created at ss = record {
  is_said = is_nonempty ss;
  has_flags = list_any (λ s. s.has_flags) ss;
  end = end_in created ss;
  uses = uses_in ss;
  is_backed = list_all (has_back at) ss;
}

-- what some say, where others limit it
abbrev pub heard_of : ℕ → ℕ → List Statement → List Statement → Saying
heard_of created at ss limits = record {
  is_said = is_nonempty ss;
  has_flags = list_any (λ s. s.has_flags) ss;
  end = end_in created (ss ++ limits);
  uses = uses_in (ss ++ limits);
  is_backed = list_all (has_back at) (ss ++ limits);
}

-- what some and others say together
abbrev pub merged : Saying → Saying → Saying
merged a b = record {
  is_said = a.is_said || b.is_said;
  has_flags = a.has_flags || b.has_flags;
  end = sooner a.end b.end;
  uses = both a.uses b.uses;
  is_backed = a.is_backed && b.is_backed;
}

-- what some say, limited by what others do
abbrev pub limited : Saying → Saying → Saying
limited a b = record {
  is_said = a.is_said;
  has_flags = a.has_flags;
  end = sooner a.end b.end;
  uses = both a.uses b.uses;
  is_backed = a.is_backed && b.is_backed;
}
