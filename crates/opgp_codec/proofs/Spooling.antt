-- What a spool holds, on its way to a sink.
use Rattle.std.proofs.Common.{◌≡◌, ℕ, Bool, true, false, List, [], ◌++◌, refl, sym, ap, subst, ◌∙◌, Option, Some, None, Result, Ok, Err, append_assoc, append-nil, arith, length, length-append, length-take-le, take, ◌+◌, ◌≤◌}
use Rattle.std.proofs.lemmas.List.{take_at}
use Rattle.std.specs.Io.KnownBytes.{Appends}
use Rattle.opgp_armor.specs.declared.label.Label.{Label}
use Rattle.opgp_armor.specs.Written.{armor_text, data_lines}
use Rattle.opgp_io.specs.declared.armoring.Armoring.{Armoring}
use Rattle.opgp_io.specs.declared.output.Output.{Output}
use Rattle.opgp_io.specs.Added.{State, Adds, Breaks}
use Rattle.opgp_io.specs.Armoring.{Begins, Ends, row_of}
use Rattle.opgp_io.specs.Rows.{closing}
use Rattle.opgp_io.specs.Output.{sink_of, state_of}
use Rattle.opgp_io.specs.Stream.{AppendsPrefix}
use Rattle.opgp_io.proofs.Added.{adds_nothing, breaks_more, prefix_put}
use Rattle.opgp_codec.specs.declared.draft_error.DraftError.{DraftError}
use Rattle.opgp_codec.specs.declared.draft_error.DraftError.TheVariants as error
use Rattle.opgp_codec.specs.Spool.{AreFirst, IsEmptied, Unspools, UnspoolsVia}
use Rattle.opgp_codec.specs.Via.{AddsVia, BreaksVia, Holds}
use Rattle.opgp_codec.proofs.Put.{put_all}
use Rattle.opgp_codec.proofs.Ways.{bare_held, via_broken, via_nothing, via_then}

-- ---- all but what is left
pub record Took {W : Type 0} (tells : Bool) (held : W → Option (List ℕ)) (has_failed : W → Bool) (old : Output W) (before : Option Armoring) (new : Output W) (after : Option Armoring) (left all : List ℕ) : Type 0 where
  pub got : List ℕ
  pub added : AddsVia held has_failed old before new after got
  pub joined : tells ≡ true → got ++ left ≡ all

pub took_none : {W : Type 0} {tells : Bool} {held : W → Option (List ℕ)} {has_failed : W → Bool} {a : Output W} {m : Option Armoring} {all : List ℕ} → has_failed (sink_of a) ≡ false → Took tells held has_failed a m a m all all
took_none sound = record { got = []; added = via_nothing sound; joined = λ t. refl }

pub took_more : {W : Type 0} {tells : Bool} {held : W → Option (List ℕ)} {has_failed : W → Bool} {a b c : Output W} {m n o : Option Armoring} {left xs rest all : List ℕ} → Took tells held has_failed a m b n left all
    → (tells ≡ true → left ≡ xs ++ rest) → AddsVia held has_failed b n c o xs → Took tells held has_failed a m c o rest all
took_more {xs} {rest} h e p = record {
  got = h.got ++ xs;
  added = via_then refl h.added p;
  joined = λ t. append_assoc h.got xs rest ∙ ap (λ (v : List ℕ). h.got ++ v) (sym (e t)) ∙ h.joined t;
}

pub took_broken : {W : Type 0} {tells : Bool} {held : W → Option (List ℕ)} {has_failed : W → Bool} {a b c : Output W} {m n : Option Armoring} {left xs all : List ℕ} (rest : List ℕ) → Took tells held has_failed a m b n left all
    → (tells ≡ true → left ≡ xs ++ rest) → BreaksVia held has_failed b n c xs → (got : List ℕ) × BreaksVia held has_failed a m c got × AreFirst tells got all
took_broken {xs} rest h e p = (
  h.got ++ xs,
  via_broken [] (ap (λ (v : List ℕ). h.got ++ v) (sym (append-nil xs))) h.added p,
  λ t. (rest, sym (h.joined t) ∙ ap (λ (v : List ℕ). h.got ++ v) (e t) ∙ sym (append_assoc h.got xs rest)),
)

pub took_front : {W : Type 0} {tells : Bool} {held : W → Option (List ℕ)} {has_failed : W → Bool} {a b : Output W} {m n : Option Armoring} {left all : List ℕ} → Took tells held has_failed a m b n left all
    → (got : List ℕ) × AddsVia held has_failed a m b n got × AreFirst tells got all
took_front {left} h = (h.got, h.added, λ t. (left, sym (h.joined t)))

pub took_all : {W : Type 0} {tells : Bool} {held : W → Option (List ℕ)} {has_failed : W → Bool} {a b : Output W} {m n : Option Armoring} {left all : List ℕ} → Took tells held has_failed a m b n left all
    → (tells ≡ true → left ≡ []) → (got : List ℕ) × AddsVia held has_failed a m b n got × (tells ≡ true → all ≡ got)
took_all h e = (h.got, h.added, λ t. sym (h.joined t) ∙ ap (λ (v : List ℕ). h.got ++ v) (e t) ∙ append-nil h.got)

-- and so many turns are made at most
pub turn_counted : (turn n : ℕ) (piece old new all : List ℕ) → (n ≡ 0 → ⊥) → n ≤ length piece → old ≡ take n piece ++ new → turn + length old ≤ length all → turn + 1 + length new ≤ length all
turn_counted turn n piece old new all some within e few =
    let size : length old ≡ n + length new = ap (length {A = ℕ}) e ∙ length-append (take n piece) new ∙ ap (λ (k : ℕ). k + length new) (length-take-le n piece within) in
    omega (arith, some, size, few)

-- ---- in binary
breaks_bare : {W : Type 0} (held : W → Option (List ℕ)) (has_failed : W → Bool) (a b : Output W) (got : List ℕ) → has_failed (sink_of a) ≡ false → BreaksVia held has_failed a None b got → Breaks (state_of held has_failed a) (state_of held has_failed b) got
breaks_bare held has_failed a b got sound p = p.broken None (state_of held has_failed a) [] (adds_nothing (state_of held has_failed a) sound)

adds_bare : {W : Type 0} (held : W → Option (List ℕ)) (has_failed : W → Bool) (a b : Output W) (m : Option Armoring) (got : List ℕ) → has_failed (sink_of a) ≡ false → AddsVia held has_failed a None b m got → Adds (state_of held has_failed a) (state_of held has_failed b) got
adds_bare held has_failed a b m got sound p = bare_held (state_of held has_failed a) (state_of held has_failed b) m got (p.added None (state_of held has_failed a) [] (adds_nothing (state_of held has_failed a) sound))

module _ {W : Type 0} (tells : Bool) (held : W → Option (List ℕ)) (has_failed : W → Bool) (a b : Output W) (all : List ℕ) where
  pub bare_unspooled : (m : Option Armoring) (r : Result Unit DraftError) → has_failed (sink_of a) ≡ false → UnspoolsVia tells held has_failed a None b m r all → Unspools tells (state_of held has_failed a) (state_of held has_failed b) r all
  bare_unspooled m (Ok x) sound p = (p.1.sound, λ t. subst (Adds (state_of held has_failed a) (state_of held has_failed b)) (sym (p.2 t)) (adds_bare held has_failed a b m p.0 sound p.1))
  bare_unspooled m (Err error.Write) sound p = (
    (breaks_bare held has_failed a b p.0 sound p.1).failed,
    λ t. subst (Breaks (state_of held has_failed a) (state_of held has_failed b)) (sym (p.2 t).1) (breaks_more (state_of held has_failed a) (state_of held has_failed b) p.0 (p.2 t).0 (breaks_bare held has_failed a b p.0 sound p.1)),
  )
  bare_unspooled m (Err error.Spool) sound p = (p.1.sound, λ t. (p.0, (p.2 t).0, adds_bare held has_failed a b m p.0 sound p.1, (p.2 t).1))

-- ---- as a block
block_front : (label : Label) (a b : State) (m : Option Armoring) (got rest all : List ℕ) → all ≡ got ++ rest → Holds (Some label) a b m got
    → (front : List ℕ) × (more : List ℕ) × Adds a b front × (armor_text label [] all ≡ front ++ more)
block_front label a b None got rest all e h = absurd h
block_front label a b (Some x) got rest all e h = (h.text, data_lines (row_of x ++ rest) ++ closing label, h.added, ap (armor_text label []) e ∙ h.ahead rest)

module _ {W : Type 0} (tells : Bool) (held : W → Option (List ℕ)) (has_failed : W → Bool) (a : Output W) (label : Label) (all : List ℕ) where
  pub block_not_begun : {E : Type 0} (b : Output W) (d : E) → Begins held has_failed a b label (Err d)
      → Unspools tells (state_of held has_failed a) (state_of held has_failed b) (Err error.Write) (armor_text label [] all)
  block_not_begun b d p = (p.told, λ t. p.begun all)

  module _ {E : Type 0} (b c : Output W) (x : Armoring) (m : Option Armoring) (p : Begins {E = E} held has_failed a b label (Ok x)) where
    pub block_cut : (e : DraftError) → UnspoolsVia tells held has_failed b (Some x) c m (Err e) all → Unspools tells (state_of held has_failed a) (state_of held has_failed c) (Err e) (armor_text label [] all)
    block_cut error.Write q = (
      (q.1.broken (Some label) (state_of held has_failed a) [] p.begun []).failed,
      λ t. subst (λ (v : List ℕ). Breaks (state_of held has_failed a) (state_of held has_failed c) (armor_text label [] v)) (sym (q.2 t).1) (q.1.broken (Some label) (state_of held has_failed a) [] p.begun (q.2 t).0),
    )
    block_cut error.Spool q = (
      q.1.sound,
      λ t. block_front label (state_of held has_failed a) (state_of held has_failed c) m q.0 (q.2 t).0 all (q.2 t).1 (q.1.added (Some label) (state_of held has_failed a) [] p.begun),
    )

    module _ (q : UnspoolsVia tells held has_failed b (Some x) c m (Ok tt) all) where
      has_got : (n : Option Armoring) → m ≡ n → Holds (Some label) (state_of held has_failed a) (state_of held has_failed c) n q.0
      has_got n e = subst (λ (v : Option Armoring). Holds (Some label) (state_of held has_failed a) (state_of held has_failed c) v q.0) e (q.1.added (Some label) (state_of held has_failed a) [] p.begun)

      pub block_kept : m ≡ None → ⊥
      block_kept e = has_got None e

      module _ (d : Output W) (y : Armoring) (e : m ≡ Some y) where
        pub block_done : {T F : Type 0} (z : T) → Ends {E = F} held has_failed c y d (Ok z) → Unspools tells (state_of held has_failed a) (state_of held has_failed d) (Ok tt) (armor_text label [] all)
        block_done z k = (
          k.told,
          λ t. subst (λ (v : List ℕ). Adds (state_of held has_failed a) (state_of held has_failed d) (armor_text label [] v)) (sym (q.2 t)) (k.ended label (state_of held has_failed a) q.0 (has_got (Some y) e)),
        )

        pub block_unended : {T F : Type 0} (z : F) → Ends {T = T} held has_failed c y d (Err z) → Unspools tells (state_of held has_failed a) (state_of held has_failed d) (Err error.Write) (armor_text label [] all)
        block_unended z k = (
          k.told,
          λ t. subst (λ (v : List ℕ). Breaks (state_of held has_failed a) (state_of held has_failed d) (armor_text label [] v)) (sym (q.2 t)) (k.ended label (state_of held has_failed a) q.0 (has_got (Some y) e)),
        )

-- ---- to a sink
front_put : (a b : State) (text : List ℕ) → a.waiting ≡ [] → (front : List ℕ) × (rest : List ℕ) × Adds a b front × (text ≡ front ++ rest) → AppendsPrefix a.held b.held text
front_put a b text none k =
    let same : text ≡ k.2.front ++ (b.waiting ++ k.1) =
    k.3 ∙ ap (λ (v : List ℕ). v ++ k.1) (sym (ap (λ (v : List ℕ). v ++ k.0) none) ∙ k.2.joined) ∙ append_assoc k.2.front b.waiting k.1 in
    (length k.2.front, subst (Appends a.held b.held) (sym (ap (take (length k.2.front)) same ∙ take_at k.2.front (b.waiting ++ k.1) (length k.2.front) refl)) k.2.put)

abbrev at : {W : Type 0} → (W → Option (List ℕ)) → (W → Bool) → W → List ℕ → State
at held failed sink waiting = record { held = held sink; failed = failed sink; waiting = waiting }

module _ {W : Type 0} (tells : Bool) (held : W → Option (List ℕ)) (failed : W → Bool) (old : W) (text waiting : List ℕ) (none : waiting ≡ []) where
  pub not_all : (e : DraftError) (new : W) (more : List ℕ) → Unspools tells (at held failed old waiting) (at held failed new more) (Err e) text → IsEmptied tells held failed old new (Err e) text
  not_all error.Write new more p = (p.0, λ t. prefix_put (at held failed old waiting) (at held failed new more) text none (p.1 t))
  not_all error.Spool new more p = (p.0, λ t. front_put (at held failed old waiting) (at held failed new more) text none (p.1 t))

  pub cut_off : (mid new : W) (wb wc : List ℕ) → Unspools tells (at held failed old waiting) (at held failed mid wb) (Ok tt) text → Breaks (at held failed mid wb) (at held failed new wc) [] → IsEmptied tells held failed old new (Err error.Write) text
  cut_off mid new wb wc p q = (q.failed, λ t. (put_all {T = Unit} {E = Unit} held failed old new waiting wb wc (at held failed mid wb) (Err tt) text none (p.1 t) q tt).0)
