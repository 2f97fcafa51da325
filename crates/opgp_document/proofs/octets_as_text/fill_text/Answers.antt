use Rattle.std.proofs.Common.{◌≡◌, ◌+◌, ◌-◌, ◌++◌, ◌∷◌, [], ℕ, List, Bool, take, drop, length, ap, sym, ◌∙◌, arith, length-drop, length-append}
use Rattle.std.proofs.lemmas.List.{length-take-le, take_rest}
use Rattle.opgp_document.specs.Text.{to_text}
use Rattle.opgp_document.proofs.Feeding.{last_length, line_length, text_most}
use Rattle.opgp_document.proofs.Filling.{put_behind}
use Rattle.opgp_document.proofs.octets_as_text.fill_text.Goals as goal

pub put_at-requires : goal.put_at-requires
put_at-requires c =
    let o : List ℕ = c.args.octets.now in
    let s : ℕ = c.lines.start in
    let e : ℕ = c.in-Some.end in
    let h = c.in-Some.ensures.some in
    let size : length (take (e - s) (drop s o)) ≡ e - s = length-take-le (e - s) (drop s o) (omega (arith, h.0, h.1, length-drop s o)) in
    let line = line_length c.args.after_cr o s e h.0 h.1 h.2 in
    let most = text_most c.args.after_cr o (e + 1) in
    omega (arith, size, line, most, c.lines.invariant.size, c.lines.invariant.room, c.requires)

pub put_at-requires-in-Some : goal.put_at-requires-in-Some
put_at-requires-in-Some c =
    let o : List ℕ = c.args.octets.now in
    let s : ℕ = c.lines.start in
    let e : ℕ = c.in-Some.end in
    let h = c.in-Some.ensures.some in
    let line = line_length c.args.after_cr o s e h.0 h.1 h.2 in
    let most = text_most c.args.after_cr o (e + 1) in
    omega (arith, h.0, line, most, c.lines.invariant.size, c.lines.invariant.room, c.put_at.auto.table, c.requires)

pub lines-preserved : goal.lines-preserved
lines-preserved c =
    let o : List ℕ = c.args.octets.now in
    let b : Bool = c.args.after_cr in
    let s : ℕ = c.lines.start in
    let e : ℕ = c.in-Some.end in
    let at : ℕ = c.lines.at in
    let old : List ℕ = c.args.table.now in
    let h = c.in-Some.ensures.some in
    let v = c.lines.invariant in
    let front : List ℕ = to_text b (take s o) in
    let run : List ℕ = take (e - s) (drop s o) in
    let size : length run ≡ e - s = length-take-le (e - s) (drop s o) (omega (arith, h.0, h.1, length-drop s o)) in
    let line = line_length b o s e h.0 h.1 h.2 in
    let one : c.put_at.new.table ≡ (front ++ run) ++ drop (at + (e - s)) old =
    put_behind at (at + (e - s)) front run old c.lines.table c.put_at.new.table (sym v.size) (omega (arith, size)) v.filled c.put_at.ensures in
    let two : c.put_at-in-Some.new.table ≡ ((front ++ run) ++ (13 ∷ 10 ∷ [])) ++ drop (at + (e - s + 2)) old =
    put_behind (at + (e - s)) (at + (e - s + 2)) (front ++ run) (13 ∷ 10 ∷ []) old c.put_at.new.table c.put_at-in-Some.new.table
    (omega (arith, length-append front run, size, v.size)) (omega arith) one c.put_at-in-Some.ensures in
    record {
      within = omega (arith, h.1);
      size = omega (arith, line, v.size, h.0);
      filled = two ∙ ap (λ (x : List ℕ). x ++ drop (at + (e - s + 2)) old) (sym h.2);
      room = omega (arith, v.room, c.put_at.auto.table, c.put_at-in-Some.auto.table);
    }

pub put_at-requires-2 : goal.put_at-requires-2
put_at-requires-2 c =
    let o : List ℕ = c.args.octets.now in
    let s : ℕ = c.lines.start in
    let size : length (take (length o - s) (drop s o)) ≡ length o - s = length-take-le (length o - s) (drop s o) (omega (arith, length-drop s o)) in
    let whole = last_length c.args.after_cr o s c.in_default.ensures.none in
    omega (arith, size, whole, c.lines.invariant.size, c.lines.invariant.room, c.requires)

pub returns : goal.returns
returns c =
    let o : List ℕ = c.args.octets.now in
    let b : Bool = c.args.after_cr in
    let s : ℕ = c.lines.start in
    let old : List ℕ = c.args.table.now in
    let v = c.lines.invariant in
    let front : List ℕ = to_text b (take s o) in
    let run : List ℕ = take (length o - s) (drop s o) in
    let size : length run ≡ length o - s = length-take-le (length o - s) (drop s o) (omega (arith, length-drop s o)) in
    let whole = last_length b o s c.in_default.ensures.none in
    let all : to_text b o ≡ front ++ run = c.in_default.ensures.none ∙ ap (λ (x : List ℕ). front ++ x) (sym (take_rest o s)) in
    put_behind c.lines.at (length (to_text b o)) front run old c.lines.table c.put_at-2.new.table (sym v.size) (omega (arith, size, whole, v.size)) v.filled c.put_at-2.ensures
    ∙ ap (λ (x : List ℕ). x ++ drop (length (to_text b o)) old) (sym all)
