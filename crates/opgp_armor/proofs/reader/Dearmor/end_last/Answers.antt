use Rattle.std.proofs.Common.{◌≡◌, ◌∙◌, sym, ap, refl, arith, length, []}
use Rattle.std.proofs.lemmas.Bool.{eqb-true, eqb-false}
use Rattle.std.proofs.lemmas.List.{nil_from_length}
use Rattle.opgp_armor.proofs.Feeding.{none_of, some_of}
use Rattle.opgp_armor.proofs.Lasting.{last_stopped, last_none, last_line}
use Rattle.opgp_armor.proofs.reader.Dearmor.end_last.Goals as goal
use Rattle.opgp_armor.proofs.reader.Dearmor.end_last.Goals.{then-is_some-via-then-is_some, then-is_some-via-else-is_some+then-is_empty}

pub returns-then-is_some-clause-fed : goal.returns-then-is_some-clause-fed
returns-then-is_some-clause-fed c = λ given taken fed. elim c.then-is_some.branch [
  | then-is_some-via-then-is_some w ↦
      last_stopped c.args.self.now _ given taken fed (some_of c.args.self.now.fault _ (sym c.is_some.ensures) w.if-is_some.true) c.requires.«open» refl refl refl refl refl refl
  | then-is_some-via-else-is_some+then-is_empty w ↦
      let none = none_of c.args.self.now.fault _ (sym c.is_some.ensures) w.if-is_some.false in
      let empty : c.args.self.now.buffer.items ≡ [] = nil_from_length c.args.self.now.buffer.items (let z = eqb-true _ 0 (sym w.is_empty.ensures ∙ w.if-is_empty.true) in let ok = c.args.self.now.buffer.ok in omega arith) in
      last_none c.args.self.now _ given taken fed none c.requires.«open» empty refl refl refl refl refl refl refl refl
]

pub returns-clause-fed : goal.returns-clause-fed
returns-clause-fed c = λ given taken fed.
    let none = none_of c.args.self.now.fault _ (sym c.is_some.ensures) c.if-is_some.false in
    let some : c.args.self.now.buffer.items ≡ [] → ⊥ = λ e. let z : length c.args.self.now.buffer.items ≡ 0 = ap length e in let n = eqb-false _ 0 (sym c.is_empty.ensures ∙ c.if-is_empty.false) in let ok = c.args.self.now.buffer.ok in absurd (omega arith) in
    last_line c.args.self.now _ c.end_buffered.new.self given taken fed none c.requires.«open» c.requires.free some refl refl refl refl refl refl refl refl
    c.in_ok-end_buffered.ensures.same c.in_ok-end_buffered.ensures.line
