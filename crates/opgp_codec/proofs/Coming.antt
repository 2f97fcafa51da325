-- What comes from a source, and goes through.
use Rattle.std.proofs.Common.{◌≡◌, ◌⊎◌, ◌+◌, ◌-◌, ◌≤◌, ◌++◌, ℕ, List, [], length, take, drop, Option, None, Some, true, false, Result, Ok, Err, IfOk, inl, inr, refl, sym, ap, ◌∙◌, subst, arith, append_assoc, append-nil, length-append}
use Rattle.std.specs.Io.KnownBytes.{Consumes, IsAtEnd}
use Rattle.std.proofs.KnownBytes.{Consumes-trans}
use Rattle.std.proofs.Math.Seq.{take-add}
use Rattle.std.proofs.lemmas.List.{drop-drop, take-take, with_items_is}
use Rattle.std.specs.Vec.{with_items}
use Rattle.std.specs.declared.vec.Vec.{Vec}
use Rattle.opgp_octets.specs.Limits.{input_limit}
use Rattle.opgp_octets.specs.Octets.{IsOctets}
use Rattle.opgp_octets.specs.declared.limits.Limits.{Limits}
use Rattle.opgp_keyring.specs.Composition.{Item}
use Rattle.opgp_codec.specs.declared.accepts.Accepts.{Accepts}
use Rattle.opgp_codec.specs.declared.incoming.Incoming.{Incoming}
use Rattle.opgp_codec.specs.declared.items.Items.{Items}
use Rattle.opgp_codec.specs.declared.mode.Mode.{Mode}
use Rattle.opgp_codec.specs.Incoming.{Came, HasEnded, IsLeftAlone, waiting_of}
use Rattle.opgp_codec.specs.Accepts.{wanted_by}
use Rattle.opgp_codec.specs.Items.{Fed, IsRest}
use Rattle.opgp_codec.specs.declared.found.Opening.{Opening}
use Rattle.opgp_codec.specs.Pulled.{OfInput, Pulls}
use Rattle.opgp_codec.specs.Reading.{AnswerOf, Outcome, Wanted}
use Rattle.opgp_codec.proofs.Pulling.{answer_known, octets_append, some_gives}
use Rattle.opgp_codec.proofs.Stepping.{Steps}

-- nothing was read yet
pub none_taken : (left : Option (List ℕ)) → Consumes left left []
none_taken None = tt
none_taken (Some octets) = refl

pub came_none : (accepts : Accepts) (mode : Mode) (limits : Limits) (before : Option (List ℕ)) (r : Incoming) → waiting_of r ≡ [] → Fed accepts mode limits r.items [] [] → r.limit ≡ input_limit limits → r.count ≡ 0 → r.ended ≡ false → Came accepts mode limits before before r []
came_none accepts mode limits before r none fed limit count going =
    record {
      octets = [];
      each = subst IsOctets (sym none) (λ i. omega arith);
      taken = subst (Consumes before before) (sym none) (none_taken before);
      fed = fed;
      limit = limit;
      count = count ∙ ap (λ (l : List ℕ). length l) (sym none);
      within = omega (arith, count);
      over = λ h. cc;
    }

-- of octets that wait some have gone through, or all
pub rest_behind : (piece octets : List ℕ) (at filled n : ℕ) → octets ≡ piece → n ≤ filled - at → take (filled - at) (drop at piece) ≡ take n (take (filled - at) (drop at octets)) ++ take (filled - (at + n)) (drop (at + n) piece)
rest_behind piece octets at filled n e within =
    let m = filled - (at + n) in
    let l = drop at piece in
    let whole : filled - at ≡ n + m = omega (arith, within) in
    let first : take n (take (filled - at) (drop at octets)) ≡ take n l = ap (λ (o : List ℕ). take n (take (filled - at) (drop at o))) e ∙ take-take n (filled - at) l within in
    ap (λ (k : ℕ). take k l) whole ∙ take-add n m l ∙ ap (λ (o : List ℕ). o ++ take m (drop n l)) (sym first) ∙ ap (λ (o : List ℕ). take n (take (filled - at) (drop at octets)) ++ take m o) (drop-drop n at piece)

pub rest_none : (piece octets : List ℕ) (at filled : ℕ) → octets ≡ piece → take (filled - at) (drop at piece) ≡ take (filled - at) (drop at octets) ++ take (filled - filled) (drop filled piece)
rest_none piece octets at filled e =
    let zero : filled - filled ≡ 0 = omega arith in
    let none : take (filled - filled) (drop filled piece) ≡ [] = ap (λ (k : ℕ). take k (drop filled piece)) zero in
    sym (ap (λ (l : List ℕ). take (filled - at) (drop at octets) ++ l) none ∙ append-nil (take (filled - at) (drop at octets)) ∙ ap (λ (o : List ℕ). take (filled - at) (drop at o)) e)

pub none_waits : (piece : List ℕ) (at filled : ℕ) → filled ≤ at → take (filled - at) (drop at piece) ≡ []
none_waits piece at filled all =
    let zero : filled - at ≡ 0 = omega (arith, all) in
    ap (λ (k : ℕ). take k (drop at piece)) zero

pub fresh_waits : {Z : Type 0} (v : Vec ℕ Z) (octets : List ℕ) (n : ℕ) → length octets ≡ v.len → take (n - 0) (drop 0 (with_items v octets).items) ≡ take n octets
fresh_waits v octets n e = ap (λ (k : ℕ). take k (with_items v octets).items) (omega arith) ∙ ap (λ (l : List ℕ). take n l) (with_items_is v octets e)

-- octets that waited have gone through
pub came_through : (a b : Incoming) (gone : List ℕ) (found : List Item) → waiting_of a ≡ gone ++ waiting_of b → b.limit ≡ a.limit → b.count ≡ a.count → b.ended ≡ a.ended → Steps a.items b.items gone found
    → (accepts : Accepts) (mode : Mode) (limits : Limits) (before now : Option (List ℕ)) (items : List Item) → Came accepts mode limits before now a items → Came accepts mode limits before now b (items ++ found)
came_through a b gone found waits limit count ended steps accepts mode limits before now items c =
    let same : c.octets ++ waiting_of a ≡ (c.octets ++ gone) ++ waiting_of b = ap (λ (l : List ℕ). c.octets ++ l) waits ∙ sym (append_assoc c.octets gone (waiting_of b)) in
    record {
      octets = c.octets ++ gone;
      each = subst IsOctets same c.each;
      taken = subst (Consumes before now) same c.taken;
      fed = steps accepts mode limits c.octets items c.fed;
      limit = limit ∙ c.limit;
      count = count ∙ c.count ∙ ap (λ (l : List ℕ). length l) same;
      within = omega (arith, limit, count, c.within);
      over = λ h. has_still (c.over (sym ended ∙ h));
    }
  where
    has_still : HasEnded a now → HasEnded b now
    has_still (inl x) = inl (omega (arith, x.0, limit, count), x.1)
    has_still (inr x) = inr (omega (arith, x, limit, count))

-- more octets wait
pub came_more : (a b : Incoming) (piece : List ℕ) (before now after : Option (List ℕ)) (accepts : Accepts) (mode : Mode) (limits : Limits) (items : List Item) → waiting_of a ≡ [] → waiting_of b ≡ piece → b.items ≡ a.items → b.limit ≡ a.limit
    → b.count ≡ a.count + length piece → b.count ≤ a.limit + 1 → IsOctets piece → Consumes now after piece → (b.ended ≡ true → HasEnded b after) → Came accepts mode limits before now a items → Came accepts mode limits before after b items
came_more a b piece before now after accepts mode limits items none waits same limit count within each taken over c =
    let was : c.octets ++ waiting_of a ≡ c.octets = ap (λ (l : List ℕ). c.octets ++ l) none ∙ append-nil c.octets in
    let is : c.octets ++ waiting_of b ≡ c.octets ++ piece = ap (λ (l : List ℕ). c.octets ++ l) waits in
    record {
      octets = c.octets;
      each = subst IsOctets (sym is) (octets_append c.octets piece (subst IsOctets was c.each) each);
      taken = subst (Consumes before after) (sym is) (Consumes-trans before now after c.octets piece (subst (Consumes before now) was c.taken) taken);
      fed = subst (λ (i : Items). Fed accepts mode limits i c.octets items) (sym same) c.fed;
      limit = limit ∙ c.limit;
      count = omega (arith, count, c.count, ap (λ (l : List ℕ). length l) was, ap (λ (l : List ℕ). length l) is, length-append c.octets piece);
      within = omega (arith, limit, within);
      over = over;
    }

-- what was left alone is left alone further on
pub alone_on : {R : Type 0} (a b c : Incoming) (x y z : R) → IsLeftAlone a b x y → IsLeftAlone b c y z → IsLeftAlone a c x z
alone_on a b c x y z first next h =
    let k = first h in
    let m = next k.0 in (m.0, m.1 ∙ k.1)

-- the same where what comes in between doesn't read
pub alone_after : {R : Type 0} (a b d c : Incoming) (x y z : R) → IsLeftAlone a b x y → d.ended ≡ b.ended → IsLeftAlone d c y z → IsLeftAlone a c x z
alone_after a b d c x y z first same next h =
    let k = first h in
    let m = next (same ∙ k.0) in (m.0, m.1 ∙ k.1)

-- all that came
pub came_all : {A : Type 0} (wanted : Wanted) (top : List Item → Outcome A → Type 0) (r : Incoming) (answer : Outcome A) (accepts : Accepts) (mode : Mode) (limits : Limits) (before now : Option (List ℕ)) (items : List Item) (c : Came accepts mode limits before now r items)
    → waiting_of r ≡ [] → HasEnded r now → AnswerOf wanted top mode limits c.octets answer → OfInput before now limits (λ octets. AnswerOf wanted top mode limits octets answer)
came_all wanted top r answer accepts mode limits before now items c none ended h =
    let was : c.octets ++ waiting_of r ≡ c.octets = ap (λ (l : List ℕ). c.octets ++ l) none ∙ append-nil c.octets in
    let size : r.count ≡ length c.octets = c.count ∙ ap (λ (l : List ℕ). length l) was in
    let pulled : Pulls before now (input_limit limits) c.octets = record {
      each = subst IsOctets was c.each;
      taken = subst (Consumes before now) was c.taken;
      all = all_of ended (c.limit) size;
    } in
    record { came = (c.octets, pulled, h); known = answer_known wanted top mode limits before now c.octets answer pulled h }
  where
    all_of : HasEnded r now → r.limit ≡ input_limit limits → r.count ≡ length c.octets → ((length c.octets ≤ input_limit limits) × IsAtEnd now) ⊎ (length c.octets ≡ input_limit limits + 1)
    all_of (inl x) limit size = inl (omega (arith, x.0, limit, size), x.1)
    all_of (inr x) limit size = inr (omega (arith, x, limit, size))

-- what follows is so too
pub of_input : (before now : Option (List ℕ)) (limits : Limits) (P Q : List ℕ → Type 0) → ((octets : List ℕ) → P octets → Q octets) → OfInput before now limits P → OfInput before now limits Q
of_input before now limits P Q f h = record { came = (h.came.0, h.came.1, f h.came.0 h.came.2); known = some_gives before P Q f h.known }

-- so it is of an outcome, if memory didn't run out
pub came_outcome : {E : Type 0} (r : Incoming) (result : Result (Outcome (Option Opening)) E) → waiting_of r ≡ []
    → IfOk result (λ answer. (accepts : Accepts) (mode : Mode) (limits : Limits) (input : List ℕ) (items : List Item) → Fed accepts mode limits r.items input items → AnswerOf (wanted_by accepts) (IsRest items) mode limits input answer)
    → IfOk result (λ answer. (accepts : Accepts) (mode : Mode) (limits : Limits) (before now : Option (List ℕ)) (items : List Item) → Came accepts mode limits before now r items → HasEnded r now → OfInput before now limits (λ octets. AnswerOf (wanted_by accepts) (IsRest items) mode limits octets answer))
came_outcome r (Ok answer) none h = λ accepts mode limits before now items came ended.
    came_all (wanted_by accepts) (IsRest items) r answer accepts mode limits before now items came none ended (h accepts mode limits came.octets items came.fed)
came_outcome r (Err e) none h = h
