-- A text that is written so that it ends at a place.
use Rattle.std.proofs.Common.{◌≡◌, ◌∙◌, ℕ, ◌+◌, ◌≤◌, List, ◌++◌, refl, sym, ap, arith, length, take, drop}
use Rattle.std.proofs.lemmas.List.{take-append-drop, take_at, length-take-le}
use Rattle.opgp_io.specs.Place.{Wrote}
use Rattle.opgp_io.proofs.Added.{take_past}

pub text_between : (old new text : List ℕ) (at from end : ℕ) → from ≡ at → at ≤ length old → end ≡ at + length text → end ≤ length new → drop from new ≡ text ++ drop end old → take from new ≡ take from old → Wrote old new at end text
text_between old new text at from end e l f within written before =
    let whole : new ≡ take from old ++ (text ++ drop end old) = sym (take-append-drop from new) ∙ ap (λ (v : List ℕ). v ++ drop from new) before ∙ ap (λ (v : List ℕ). take from old ++ v) written in
    let count = length-take-le from old (omega arith) in
    record {
      within = within;
      octets =
          ap (take end) whole ∙ take_past (take from old) (text ++ drop end old) (length text) end (omega arith)
          ∙ ap (λ (v : List ℕ). take from old ++ v) (take_at text (drop end old) (length text) refl) ∙ ap (λ (v : ℕ). take v old ++ text) e;
    }
