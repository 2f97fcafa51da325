use Rattle.std.proofs.Common.{◌≡◌, ◌∙◌, refl, sym, subst, Bool, take, arith, length, []}
use Rattle.std.proofs.lemmas.Bool.{eqb-true}
use Rattle.std.proofs.lemmas.List.{nil_from_length}
use Rattle.opgp_armor.specs.Cuts.{IsLineSplit}
use Rattle.opgp_armor.proofs.Feeding.{part_plain, part_line, part_stopped, none_of, some_of, looks_buffered, looks_whole, no_event}
use Rattle.opgp_armor.proofs.Pushing.{quiet_going, quiet_stopped}
use Rattle.opgp_armor.proofs.reader.Dearmor.part.Goals as goal

pub returns-then-is_some-clause-fed : goal.returns-then-is_some-clause-fed
returns-then-is_some-clause-fed c = λ given taken fed. no_event _ _ taken
    (part_stopped c.args.self.now _ c.args.rest.now (length c.args.rest.now) given taken fed (λ i. omega (arith, c.type_inv.rest i)) (some_of c.args.self.now.fault _ (sym c.is_some.ensures) c.if-is_some.true) c.requires.«open» (omega arith)
    refl refl refl refl refl refl)

pub returns-then-is_empty-clause-fed : goal.returns-then-is_empty-clause-fed
returns-then-is_empty-clause-fed c = λ given taken fed.
    let d = c.args.self.now in
    let line = c.split_line-n.result.0.now in
    let none = none_of d.fault _ (sym c.is_some.ensures) c.if-is_some.false in
    let split = subst (λ (v : Bool). IsLineSplit c.args.rest.now line c.split_line-n.result.1 v) c.if-ends.true c.split_line-n.ensures.split in
    let empty : d.buffer.items ≡ [] = nil_from_length d.buffer.items (let z = eqb-true _ 0 (sym c.is_empty.ensures ∙ c.if-is_empty.true) in let ok = d.buffer.ok in omega arith) in
    no_event _ _ taken (part_line d _ c.end_line.new.self c.args.rest.now line line c.split_line-n.result.1 given taken fed (λ i. omega (arith, c.type_inv.rest i)) none c.requires.«open» c.requires.free split
    (looks_whole d line empty) refl refl refl refl refl refl refl refl c.in_ok-end_line.ensures.same c.in_ok-end_line.ensures.line)

pub returns-in_ok-end_buffered-clause-fed : goal.returns-in_ok-end_buffered-clause-fed
returns-in_ok-end_buffered-clause-fed c = λ given taken fed.
    let d = c.args.self.now in
    let line = c.split_line-n.result.0.now in
    let none = none_of d.fault _ (sym c.is_some.ensures) c.if-is_some.false in
    let split = subst (λ (v : Bool). IsLineSplit c.args.rest.now line c.split_line-n.result.1 v) c.if-ends-2.true c.split_line-n.ensures.split in
    no_event _ _ taken (part_line d _ c.end_buffered.new.self c.args.rest.now line _ c.split_line-n.result.1 given taken fed (λ i. omega (arith, c.type_inv.rest i)) none c.requires.«open» c.requires.free split
    (looks_buffered d line _ c.in_ok-keep.ensures.kept) refl refl refl refl refl refl refl refl c.in_ok-end_buffered.ensures.same c.in_ok-end_buffered.ensures.line)

pub returns-else-ends-2-clause-fed : goal.returns-else-ends-2-clause-fed
returns-else-ends-2-clause-fed c = λ given taken fed.
    let none = none_of c.args.self.now.fault _ (sym c.is_some.ensures) c.if-is_some.false in
    let split = subst (λ (v : Bool). IsLineSplit c.args.rest.now c.split_line-n.result.0.now c.split_line-n.result.1 v) c.if-ends-2.false c.split_line-n.ensures.split in
    no_event _ _ taken (part_plain c.args.self.now _ c.args.rest.now c.split_line-n.result.0.now c.split_line-n.result.1 given taken fed (λ i. omega (arith, c.type_inv.rest i)) none c.requires.«open» split
    refl refl refl refl refl refl refl refl c.in_ok-keep.ensures.kept refl refl)

pub returns-then-is_some-clause-quiet : goal.returns-then-is_some-clause-quiet
returns-then-is_some-clause-quiet c = λ k lt given taken fed.
    quiet_stopped c.args.self.now given (take k c.args.rest.now) taken fed (some_of c.args.self.now.fault _ (sym c.is_some.ensures) c.if-is_some.true) c.requires.«open» c.requires.free

pub returns-then-is_empty-clause-quiet : goal.returns-then-is_empty-clause-quiet
returns-then-is_empty-clause-quiet c = λ k lt given taken fed.
    quiet_going c.args.self.now c.args.rest.now c.split_line-n.result.0.now c.split_line-n.result.1 c.split_line-n.result.2 k given taken fed c.requires.«open» c.requires.free c.split_line-n.ensures.split lt

pub returns-in_ok-end_buffered-clause-quiet : goal.returns-in_ok-end_buffered-clause-quiet
returns-in_ok-end_buffered-clause-quiet c = λ k lt given taken fed.
    quiet_going c.args.self.now c.args.rest.now c.split_line-n.result.0.now c.split_line-n.result.1 c.split_line-n.result.2 k given taken fed c.requires.«open» c.requires.free c.split_line-n.ensures.split lt

pub returns-else-ends-2-clause-quiet : goal.returns-else-ends-2-clause-quiet
returns-else-ends-2-clause-quiet c = λ k lt given taken fed.
    quiet_going c.args.self.now c.args.rest.now c.split_line-n.result.0.now c.split_line-n.result.1 c.split_line-n.result.2 k given taken fed c.requires.«open» c.requires.free c.split_line-n.ensures.split lt
