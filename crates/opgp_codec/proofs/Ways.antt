-- Octets added in steps, bare or in a block of armor.
use Rattle.std.proofs.Common.{◌≡◌, ℕ, Bool, true, false, if◌then◌else◌, List, [], ◌++◌, refl, sym, ap, subst, ◌∙◌, Option, Some, None, Result, Ok, Err, IsErr, append_assoc, append-nil}
use Rattle.std.specs.Prelude.{is_some}
use Rattle.opgp_armor.specs.declared.label.Label.{Label}
use Rattle.opgp_armor.specs.Written.{armor_text}
use Rattle.opgp_io.specs.declared.armoring.Armoring.{Armoring}
use Rattle.opgp_io.specs.declared.output.Output.{Output}
use Rattle.opgp_io.specs.Added.{State, Adds, Breaks}
use Rattle.opgp_io.specs.Armoring.{Begins, Ends, ExtendsArmor}
use Rattle.opgp_io.specs.Output.{Extends, sink_name, sink_of, state_of}
use Rattle.opgp_io.proofs.Added.{adds_nothing, adds_then, breaks_then, breaks_more, stop}
use Rattle.opgp_codec.specs.Via.{AddsVia, BreaksVia, ExtendsVia, Fails, Holds}

bare_adds : (block : Option Label) (s a b : State) (given xs : List ℕ) → Adds a b xs → Holds block s a None given → Holds block s b None (given ++ xs)
bare_adds None s a b given xs p h = adds_then s a b given xs h p
bare_adds (Some label) s a b given xs p h = absurd h

bare_breaks : (block : Option Label) (s a b : State) (given xs : List ℕ) → Breaks a b xs → Holds block s a None given → Fails block s b (given ++ xs)
bare_breaks None s a b given xs p h = breaks_then s a b given xs h p
bare_breaks (Some label) s a b given xs p h = absurd h

pub bare : {W T E : Type 0} {held : W → Option (List ℕ)} {has_failed : W → Bool} {a b : Output W} {xs : List ℕ} (r : Result T E) → Extends held has_failed a b r xs → ExtendsVia held has_failed a None b None r xs
bare {xs} (Ok x) p = record { same = p.same; sound = p.written.sound; added = λ block start given h. bare_adds block start _ _ given xs p.written h }
bare {xs} (Err e) p = record { same = p.same; broken = λ block start given h. bare_breaks block start _ _ given xs p.written h }

pub bare_none : {W T E : Type 0} {held : W → Option (List ℕ)} {has_failed : W → Bool} {a b : Output W} {xs : List ℕ} (m : Option Armoring) (r : Result T E) → is_some m ≡ false → Extends held has_failed a b r xs → ExtendsVia held has_failed a m b m r xs
bare_none None r none p = bare r p
bare_none (Some x) r none p = cc

armor_adds : {W T E : Type 0} {held : W → Option (List ℕ)} {has_failed : W → Bool} {a b : Output W} {m n : Armoring} {xs : List ℕ} (x : T) → ExtendsArmor {E = E} held has_failed a m b n (Ok x) xs
    → (block : Option Label) (start : State) (given : List ℕ) → Holds block start (state_of held has_failed a) (Some m) given → Holds block start (state_of held has_failed b) (Some n) (given ++ xs)
armor_adds x p None start given h = absurd h
armor_adds x p (Some label) start given h = p.added label start given h

armor_breaks : {W T E : Type 0} {held : W → Option (List ℕ)} {has_failed : W → Bool} {a b : Output W} {m n : Armoring} {xs : List ℕ} (d : E) → ExtendsArmor {T = T} held has_failed a m b n (Err d) xs
    → (block : Option Label) (start : State) (given : List ℕ) → Holds block start (state_of held has_failed a) (Some m) given → Fails block start (state_of held has_failed b) (given ++ xs)
armor_breaks d p None start given h = absurd h
armor_breaks d p (Some label) start given h = p.added label start given h

pub in_armor : {W T E : Type 0} {held : W → Option (List ℕ)} {has_failed : W → Bool} {a b : Output W} {m n : Armoring} {xs : List ℕ} (r : Result T E) → ExtendsArmor held has_failed a m b n r xs → ExtendsVia held has_failed a (Some m) b (Some n) r xs
in_armor (Ok x) p = record { same = p.same; sound = p.told; added = armor_adds x p }
in_armor (Err d) p = record { same = p.same; broken = armor_breaks d p }

-- ---- in steps
fails_more : (block : Option Label) (start now : State) (xs ys : List ℕ) → Fails block start now xs → Fails block start now (xs ++ ys)
fails_more None start now xs ys h = breaks_more start now xs ys h
fails_more (Some label) start now xs ys h = λ more. subst (λ (v : List ℕ). Breaks start now (armor_text label [] v)) (sym (append_assoc xs ys more)) (h (ys ++ more))

pub via_nothing : {W : Type 0} {held : W → Option (List ℕ)} {has_failed : W → Bool} {a : Output W} {m : Option Armoring} → has_failed (sink_of a) ≡ false → AddsVia held has_failed a m a m []
via_nothing {held} {has_failed} {a} {m} sound = record { same = refl; sound = sound; added = λ block start given h. subst (Holds block start (state_of held has_failed a) m) (sym (append-nil given)) h }

pub via_then : {W : Type 0} {held : W → Option (List ℕ)} {has_failed : W → Bool} {a b c : Output W} {m n o : Option Armoring} {xs ys zs : List ℕ} → zs ≡ xs ++ ys
    → AddsVia held has_failed a m b n xs → AddsVia held has_failed b n c o ys → AddsVia held has_failed a m c o zs
via_then {held} {has_failed} {c} {o} {xs} {ys} e p q = record {
  same = q.same ∙ p.same;
  sound = q.sound;
  added = λ block start given h. subst (Holds block start (state_of held has_failed c) o) (append_assoc given xs ys ∙ ap (λ (v : List ℕ). given ++ v) (sym e)) (q.added block start (given ++ xs) (p.added block start given h));
}

pub via_broken : {W : Type 0} {held : W → Option (List ℕ)} {has_failed : W → Bool} {a b c : Output W} {m n : Option Armoring} {xs ys zs : List ℕ} (rest : List ℕ) → zs ≡ xs ++ (ys ++ rest)
    → AddsVia held has_failed a m b n xs → BreaksVia held has_failed b n c ys → BreaksVia held has_failed a m c zs
via_broken {held} {has_failed} {c} {xs} {ys} rest e p q = record {
  same = q.same ∙ p.same;
  broken = λ block start given h. subst (Fails block start (state_of held has_failed c)) (append_assoc (given ++ xs) ys rest ∙ append_assoc given xs (ys ++ rest) ∙ ap (λ (v : List ℕ). given ++ v) (sym e))
      (fails_more block start (state_of held has_failed c) ((given ++ xs) ++ ys) rest (q.broken block start (given ++ xs) (p.added block start given h)));
}

-- ---- all but what is left
pub record ViaAllBut {W : Type 0} (held : W → Option (List ℕ)) (has_failed : W → Bool) (old : Output W) (before : Option Armoring) (new : Output W) (after : Option Armoring) (left all : List ℕ) : Type 0 where
  pub done : List ℕ
  pub added : AddsVia held has_failed old before new after done
  pub joined : done ++ left ≡ all

pub via_all_left : {W : Type 0} {held : W → Option (List ℕ)} {has_failed : W → Bool} {a : Output W} {m : Option Armoring} {all : List ℕ} → has_failed (sink_of a) ≡ false → ViaAllBut held has_failed a m a m all all
via_all_left sound = record { done = []; added = via_nothing sound; joined = refl }

pub via_less_left : {W : Type 0} {held : W → Option (List ℕ)} {has_failed : W → Bool} {a b c : Output W} {m n o : Option Armoring} {left xs rest all : List ℕ} → ViaAllBut held has_failed a m b n left all → left ≡ xs ++ rest
    → AddsVia held has_failed b n c o xs → ViaAllBut held has_failed a m c o rest all
via_less_left {xs} {rest} h e p = record {
  done = h.done ++ xs;
  added = via_then refl h.added p;
  joined = append_assoc h.done xs rest ∙ ap (λ (v : List ℕ). h.done ++ v) (sym e) ∙ h.joined;
}

pub via_broken_left : {W : Type 0} {held : W → Option (List ℕ)} {has_failed : W → Bool} {a b c : Output W} {m n : Option Armoring} {left xs all : List ℕ} (rest : List ℕ) → ViaAllBut held has_failed a m b n left all → left ≡ xs ++ rest
    → BreaksVia held has_failed b n c xs → BreaksVia held has_failed a m c all
via_broken_left rest h e p = via_broken rest (sym h.joined ∙ ap (λ (v : List ℕ). h.done ++ v) e) h.added p

pub via_nothing_left : {W : Type 0} {held : W → Option (List ℕ)} {has_failed : W → Bool} {a b : Output W} {m n : Option Armoring} {left all : List ℕ} → ViaAllBut held has_failed a m b n left all → left ≡ [] → AddsVia held has_failed a m b n all
via_nothing_left {held} {has_failed} {a} {b} {m} {n} h e = subst (AddsVia held has_failed a m b n) (sym (append-nil h.done) ∙ ap (λ (v : List ℕ). h.done ++ v) (sym e) ∙ h.joined) h.added

-- ---- from and to outputs
pub held_bare : {W : Type 0} (held : W → Option (List ℕ)) (has_failed : W → Bool) (a b : Output W) (m : Option Armoring) (r : Bool) (xs : List ℕ) → is_some m ≡ false → has_failed (sink_of a) ≡ false → sink_name b ≡ sink_name a
    → (r ≡ true → Adds (state_of held has_failed a) (state_of held has_failed b) xs) → (r ≡ false → state_of held has_failed b ≡ state_of held has_failed a) → AddsVia held has_failed a m b m (if r then xs else [])
held_bare held has_failed a b (Some x) r xs none sound same h left = cc
held_bare held has_failed a b None true xs none sound same h left = record { same = same; sound = (h refl).sound; added = λ block start given k. bare_adds block start _ _ given xs (h refl) k }
held_bare held has_failed a b None false xs none sound same h left =
    let old : State = state_of held has_failed a in
    let e : state_of held has_failed b ≡ old = left refl in
    record { same = same; sound = ap (λ (s : State). s.failed) e ∙ sound; added = λ block start given k. bare_adds block start old _ given [] (subst (λ (s : State). Adds old s []) (sym e) (adds_nothing old sound)) k }

pub bare_held : (s b : State) (m : Option Armoring) (xs : List ℕ) → Holds None s b m xs → Adds s b xs
bare_held s b None xs h = h
bare_held s b (Some x) xs h = absurd h

pub bare_back : {W T E : Type 0} {held : W → Option (List ℕ)} {has_failed : W → Bool} {a b : Output W} {xs : List ℕ} (m : Option Armoring) (r : Result T E) → has_failed (sink_of a) ≡ false
    → ExtendsVia held has_failed a None b m r xs → Extends held has_failed a b r xs
bare_back {held} {has_failed} {a} {xs = xs} m (Ok x) sound p = record { same = p.same; written = bare_held _ _ m xs (p.added None _ [] (adds_nothing (state_of held has_failed a) sound)) }
bare_back {held} {has_failed} {a} m (Err e) sound p = record { same = p.same; written = p.broken None _ [] (adds_nothing (state_of held has_failed a) sound) }

-- ---- a block
pub block_unbegun : {W E T F : Type 0} {held : W → Option (List ℕ)} {has_failed : W → Bool} {a b : Output W} {label : Label} {d : E} (xs : List ℕ) (r : Result T F) → IsErr r → Begins held has_failed a b label (Err d)
    → Extends held has_failed a b r (armor_text label [] xs)
block_unbegun xs r h p = record { same = p.same; written = stop _ _ r _ h (p.begun xs) }

pub block_broken : {W E T F : Type 0} {held : W → Option (List ℕ)} {has_failed : W → Bool} {a b c : Output W} {label : Label} {x : Armoring} {xs : List ℕ} (r : Result T F) → IsErr r → Begins {E = E} held has_failed a b label (Ok x)
    → BreaksVia held has_failed b (Some x) c xs → Extends held has_failed a c r (armor_text label [] xs)
block_broken {held} {has_failed} {a} {c} {label} {xs = xs} r h p q = record {
  same = q.same ∙ p.same;
  written = stop _ _ r _ h (subst (λ (v : List ℕ). Breaks (state_of held has_failed a) (state_of held has_failed c) (armor_text label [] v)) (append-nil xs) (q.broken (Some label) _ [] p.begun []));
}

pub block_stays : {W E : Type 0} {held : W → Option (List ℕ)} {has_failed : W → Bool} {a b c : Output W} {label : Label} {x : Armoring} {m : Option Armoring} {xs : List ℕ} → Begins {E = E} held has_failed a b label (Ok x)
    → AddsVia held has_failed b (Some x) c m xs → m ≡ None → ⊥
block_stays {held} {has_failed} {a} {c} {label} {xs = xs} p q e = subst (λ (v : Option Armoring). Holds (Some label) (state_of held has_failed a) (state_of held has_failed c) v xs) e (q.added (Some label) _ [] p.begun)

pub block_ended : {W E T F : Type 0} {held : W → Option (List ℕ)} {has_failed : W → Bool} {a b c d : Output W} {label : Label} {x y : Armoring} {m : Option Armoring} {xs : List ℕ} {r : Result T F} → Begins {E = E} held has_failed a b label (Ok x)
    → AddsVia held has_failed b (Some x) c m xs → m ≡ Some y → Ends held has_failed c y d r → Extends held has_failed a d r (armor_text label [] xs)
block_ended {held} {has_failed} {a} {c} {label} {xs = xs} p q e z = record {
  same = z.same ∙ q.same ∙ p.same;
  written = z.ended label _ xs (subst (λ (v : Option Armoring). Holds (Some label) (state_of held has_failed a) (state_of held has_failed c) v xs) e (q.added (Some label) _ [] p.begun));
}
