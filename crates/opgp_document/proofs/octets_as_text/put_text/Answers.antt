use Rattle.std.proofs.Common.{◌≡◌, ◌+◌, ◌-◌, ◌++◌, ◌∷◌, [], ℕ, List, Bool, take, drop, length, ap, refl, ◌∙◌, arith, length-drop}
use Rattle.std.proofs.lemmas.List.{length-take-le}
use Rattle.opgp_document.specs.Text.{to_text}
use Rattle.opgp_document.proofs.Feeding.{all_fed, last_length, line_fed, line_length, text_most}
use Rattle.opgp_document.proofs.octets_as_text.put_text.Goals as goal

pub put-requires : goal.put-requires
put-requires c =
    let o : List ℕ = c.args.octets.now in
    let s : ℕ = c.lines.start in
    let e : ℕ = c.in-Some.end in
    let h = c.in-Some.ensures.some in
    let size : length (take (e - s) (drop s o)) ≡ e - s = length-take-le (e - s) (drop s o) (omega (arith, h.0, h.1, length-drop s o)) in
    let line = line_length c.args.after_cr o s e h.0 h.1 h.2 in
    let most = text_most c.args.after_cr o (e + 1) in
    record { room = omega (arith, size, line, most, c.lines.invariant.len, c.lines.invariant.room) }

pub put-requires-in-Some : goal.put-requires-in-Some
put-requires-in-Some c =
    let o : List ℕ = c.args.octets.now in
    let s : ℕ = c.lines.start in
    let e : ℕ = c.in-Some.end in
    let h = c.in-Some.ensures.some in
    let size : length (take (e - s) (drop s o)) ≡ e - s = length-take-le (e - s) (drop s o) (omega (arith, h.0, h.1, length-drop s o)) in
    let line = line_length c.args.after_cr o s e h.0 h.1 h.2 in
    let most = text_most c.args.after_cr o (e + 1) in
    record { room = omega (arith, size, line, most, c.put.ensures.len, c.put.ensures.capacity, c.lines.invariant.len, c.lines.invariant.room) }

pub lines-preserved : goal.lines-preserved
lines-preserved c =
    let o : List ℕ = c.args.octets.now in
    let b : Bool = c.args.after_cr in
    let s : ℕ = c.lines.start in
    let e : ℕ = c.in-Some.end in
    let h = c.in-Some.ensures.some in
    let size : length (take (e - s) (drop s o)) ≡ e - s = length-take-le (e - s) (drop s o) (omega (arith, h.0, h.1, length-drop s o)) in
    let line = line_length b o s e h.0 h.1 h.2 in
    let v = c.lines.invariant in
    let written : c.put-in-Some.new.out.items ≡ ((c.args.text.now.items ++ to_text b (take s o)) ++ take (e - s) (drop s o)) ++ (13 ∷ 10 ∷ []) =
    c.put-in-Some.ensures.items
    ∙ ap (λ (x : List ℕ). x ++ (13 ∷ 10 ∷ [])) (c.put.ensures.items ∙ ap (λ (x : List ℕ). x ++ take (e - s) (drop s o)) v.written) in
    record {
      within = omega (arith, h.1);
      written = written ∙ line_fed c.args.text.now.items (to_text b (take s o)) (take (e - s) (drop s o)) (13 ∷ 10 ∷ []) (to_text b (take (e + 1) o)) refl h.2;
      len = omega (arith, size, line, c.put.ensures.len, c.put-in-Some.ensures.len, v.len);
      room = omega (arith, v.room, c.put.ensures.capacity, c.put-in-Some.ensures.capacity);
    }

pub put-requires-2 : goal.put-requires-2
put-requires-2 c =
    let o : List ℕ = c.args.octets.now in
    let s : ℕ = c.lines.start in
    let size : length (take (length o - s) (drop s o)) ≡ length o - s = length-take-le (length o - s) (drop s o) (omega (arith, length-drop s o)) in
    let whole = last_length c.args.after_cr o s c.in_default.ensures.none in
    record { room = omega (arith, size, whole, c.lines.invariant.len, c.lines.invariant.room) }

pub returns : goal.returns
returns c =
    let o : List ℕ = c.args.octets.now in
    let b : Bool = c.args.after_cr in
    let s : ℕ = c.lines.start in
    c.put-2.ensures.items ∙ ap (λ (x : List ℕ). x ++ take (length o - s) (drop s o)) c.lines.invariant.written
    ∙ all_fed b o s c.args.text.now.items c.in_default.ensures.none
