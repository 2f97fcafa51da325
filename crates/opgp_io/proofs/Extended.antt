-- Octets that are added to an output in steps.
use Rattle.std.proofs.Common.{◌≡◌, ◌∙◌, ℕ, Bool, false, List, [], ◌++◌, refl, sym, Option, Result, Ok, Err}
use Rattle.std.specs.Result.{IsErr}
use Rattle.opgp_io.specs.declared.output.Output.{Output}
use Rattle.opgp_io.specs.Output.{Extends, sink_name, sink_of, state_of}
use Rattle.opgp_io.proofs.Added.{AddsAllBut, adds_nothing, all_left, broken_left, less_left, nothing_left, then_is, stop, stop_is, writes_same}

-- at first nothing is added
pub extends_nothing : {W T E : Type 0} {held : W → Option (List ℕ)} {has_failed : W → Bool} {a : Output W} {x : T} → has_failed (sink_of a) ≡ false → Extends {E = E} held has_failed a a (Ok x) []
extends_nothing {held} {has_failed} {a} sound = record { same = refl; written = adds_nothing (state_of held has_failed a) sound }

-- the same text, written otherwise
pub extends_same : {W T E : Type 0} {held : W → Option (List ℕ)} {has_failed : W → Bool} {a b : Output W} {r : Result T E} {xs ys : List ℕ} → ys ≡ xs
    → Extends held has_failed a b r xs → Extends held has_failed a b r ys
extends_same {r} e p = record { same = p.same; written = writes_same _ _ r _ _ (sym e) p.written }

-- what is added in two steps is added as a whole
pub extends_then : {W T E U F : Type 0} {held : W → Option (List ℕ)} {has_failed : W → Bool} {a b c : Output W} {x : T} {r : Result U F} {xs ys zs : List ℕ} → zs ≡ xs ++ ys
    → Extends {E = E} held has_failed a b (Ok x) xs → Extends held has_failed b c r ys → Extends held has_failed a c r zs
extends_then {r} e p q = record { same = q.same ∙ p.same; written = then_is _ _ _ r _ _ _ e p.written q.written }

-- a failure in the first step is a failure in the whole
pub extends_stop : {W T E U F : Type 0} {held : W → Option (List ℕ)} {has_failed : W → Bool} {a b : Output W} {d : E} {r : Result U F} {xs zs : List ℕ} (rest : List ℕ) → zs ≡ xs ++ rest
    → IsErr r → Extends {T = T} held has_failed a b (Err d) xs → Extends held has_failed a b r zs
extends_stop {r} rest e h p = record { same = p.same; written = stop_is _ _ r _ _ _ e h p.written }

-- ---- all but what is left
pub record ExtendsAllBut {W : Type 0} (held : W → Option (List ℕ)) (has_failed : W → Bool) (old new : Output W) (left all : List ℕ) : Type 0 where
  pub same : sink_name new ≡ sink_name old
  pub but : AddsAllBut (state_of held has_failed old) (state_of held has_failed new) left all

pub extends_all_left : {W : Type 0} {held : W → Option (List ℕ)} {has_failed : W → Bool} {a : Output W} {all : List ℕ} → has_failed (sink_of a) ≡ false → ExtendsAllBut held has_failed a a all all
extends_all_left {held} {has_failed} {a} {all} sound = record { same = refl; but = all_left (state_of held has_failed a) all sound }

pub extends_less_left : {W T E : Type 0} {held : W → Option (List ℕ)} {has_failed : W → Bool} {a b c : Output W} {x : T} {left xs rest all : List ℕ} → ExtendsAllBut held has_failed a b left all → left ≡ xs ++ rest
    → Extends {E = E} held has_failed b c (Ok x) xs → ExtendsAllBut held has_failed a c rest all
extends_less_left h e p = record { same = p.same ∙ h.same; but = less_left _ _ _ _ _ _ _ h.but e p.written }

pub extends_broken_left : {W T E U F : Type 0} {held : W → Option (List ℕ)} {has_failed : W → Bool} {a b c : Output W} {d : E} {r : Result U F} {left xs all : List ℕ} (rest : List ℕ) → ExtendsAllBut held has_failed a b left all → left ≡ xs ++ rest
    → IsErr r → Extends {T = T} held has_failed b c (Err d) xs → Extends held has_failed a c r all
extends_broken_left {r} rest h e is p = record { same = p.same ∙ h.same; written = stop _ _ r _ is (broken_left _ _ _ _ _ rest _ h.but e p.written) }

pub extends_nothing_left : {W T E : Type 0} {held : W → Option (List ℕ)} {has_failed : W → Bool} {a b : Output W} {x : T} {left all : List ℕ} → ExtendsAllBut held has_failed a b left all → left ≡ [] → Extends {E = E} held has_failed a b (Ok x) all
extends_nothing_left h e = record { same = h.same; written = nothing_left _ _ _ _ h.but e }
