use Rattle.std.proofs.Common.{◌≡◌, ◌∙◌, ◌++◌, ◌-◌, ap, sym, List, ℕ, length, take, drop, min, true, rules}
use Rattle.std.proofs.lemmas.List.{take_min, take-append-drop}
use Rattle.opgp_armor.proofs.Keeping.{keeps_front}
use Rattle.opgp_tool.proofs.beginning.Beginning.add.Goals as goal

pub returns-in-Ok : goal.returns-in-Ok
returns-in-Ok c = λ input is.
    let old : List ℕ = c.args.self.now.octets.items in
    let goes : c.args.self.now.goes_on ≡ true = search rules in
    let room : c.saturating_sub-room.result ≡ 65536 - length old = search rules in
    let all = c.in-Ok.ensures.items ∙ ap (λ (n : ℕ). old ++ take n c.args.piece.now) c.min-count.ensures
    ∙ ap (λ (n : ℕ). old ++ take (min n (length c.args.piece.now)) c.args.piece.now) room
    ∙ ap (λ (v : List ℕ). old ++ v) (take_min (65536 - length old) c.args.piece.now)
    ∙ keeps_front 65536 input c.args.piece.now old (is.all goes) in
    record {
      rest = drop 65536 (input ++ c.args.piece.now);
      front = sym (take-append-drop 65536 (input ++ c.args.piece.now))
          ∙ ap (λ (v : List ℕ). v ++ drop 65536 (input ++ c.args.piece.now)) (sym all);
      all = λ _. all;
    }
