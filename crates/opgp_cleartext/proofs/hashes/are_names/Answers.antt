use Rattle.std.proofs.Common.{◌+◌, ◌∙◌, ◌&&◌, ℕ, List, Bool, sym, ap, length, drop, arith}
use Rattle.std.proofs.lemmas.List.{take_rest, length-drop}
use Rattle.opgp_cleartext.proofs.Cutting.{true_and}
use Rattle.std.specs.List.{list_all}
use Rattle.opgp_cleartext.specs.Hashes.{is_named, parts}
use Rattle.opgp_cleartext.proofs.Cutting.{part_found, part_last}
use Rattle.opgp_cleartext.proofs.hashes.are_names.Goals as goal

pub returns-then-not-is_named : goal.returns-then-not-is_named
returns-then-not-is_named c =
    let o : List ℕ = c.names.rest.now in
    let h = c.in-Some.ensures in
    let cut = part_found o c.in-Some.size h.0.high (λ k l e. h.0.before k (omega arith) l e) h.1 in
    sym (sym c.names.invariant.left ∙ ap (λ (ps : List (List ℕ)). list_all is_named ps) cut
    ∙ ap (λ (b : Bool). b && list_all is_named (parts (drop (c.in-Some.size + 1) o))) (sym c.is_named.ensures ∙ c.if-not-is_named.true))

pub overflow_add-rest : goal.overflow_add-rest
overflow_add-rest c = omega (arith, c.in-Some.ensures.0.high, c.names.invariant.within)

pub names-preserved : goal.names-preserved
names-preserved c =
    let o : List ℕ = c.names.rest.now in
    let h = c.in-Some.ensures in
    let cut = part_found o c.in-Some.size h.0.high (λ k l e. h.0.before k (omega arith) l e) h.1 in
    let rest = take_rest o (c.in-Some.size + 1) in
    record {
      left = ap (λ (x : List ℕ). list_all is_named (parts x)) rest
          ∙ sym (sym c.names.invariant.left ∙ ap (λ (ps : List (List ℕ)). list_all is_named ps) cut
          ∙ ap (λ (b : Bool). b && list_all is_named (parts (drop (c.in-Some.size + 1) o))) (sym c.is_named.ensures ∙ c.if-not-is_named.false));
      within = omega (arith, c.names.invariant.within, ap (length {A = ℕ}) rest, length-drop (c.in-Some.size + 1) o);
    }

pub returns : goal.returns
returns c =
    let o : List ℕ = c.names.rest.now in
    let last = part_last o (λ k l e. c.in_default.ensures k (omega arith) l e) in
    c.is_named-2.ensures ∙ sym (sym c.names.invariant.left ∙ ap (λ (ps : List (List ℕ)). list_all is_named ps) last ∙ true_and (is_named o))
