use Rattle.std.proofs.Common.{◌≡◌, ℕ, ◌+◌, ◌++◌, List, length, take, true, sym, ap, subst, refl, ◌∙◌, arith}
use Rattle.std.proofs.lemmas.Grind.{common_steps}
use Rattle.opgp_frame.specs.declared.deframe.State.{State}
use Rattle.opgp_frame.specs.Fed.{IsRest}
use Rattle.opgp_frame.specs.Header.{kind_in}
use Rattle.opgp_frame.specs.Length.{length_amount}
use Rattle.opgp_frame.specs.PacketFault.{PacketFault}
use Rattle.opgp_frame.specs.ReaderState.{state_fits}
use Rattle.opgp_frame.proofs.FedLemmas.{Fed-grows, Fed-ends}
use Rattle.opgp_frame.proofs.Holding.{length_facts, PieceFacts, piece_fits, holds_piece}
use Rattle.opgp_frame.proofs.Steps.{length_faulty, length_good, within_limit, room_for_piece, partial_some, length_fault-same}
use Rattle.opgp_frame.proofs.deframe.Deframe.end_length.Goals as goal

pub invariant_of-self-in-None-2 : goal.invariant_of-self-in-None-2
invariant_of-self-in-None-2 c =
    let d = c.args.self.now in
    let a = c.args in
    let ks = length d.exponents.items in
    let n = length d.body.items in
    let facts = length_facts d.limits a.header a.seen a.count ks n (subst (λ (s : State). state_fits d.limits s ks n ≡ true) c.requires.in_length d.fits) in
    let l = a.announced in
    let from = c.len-from.result in
    let until : ℕ = from + c.amount-amount.result in
    let same : from ≡ n = grind (arith, common_steps) in
    let pieces : c.len-pieces.result ≡ ks = grind (arith, common_steps) in
    let good = sym c.in-None-2.ensures in
    let room = within_limit d.limits c.kind_in.result c.len-pieces.result from l good in
    let more = room_for_piece d.limits c.kind_in.result c.len-pieces.result from l good in
    let amount : c.amount-amount.result ≡ length_amount l = c.amount-amount.ensures.value in
    let next : PieceFacts d.limits a.header l from until ks n = record {
      read = facts.read;
      order = omega arith;
      open' = omega (arith, same, c.if-amount-eq0.false);
      within' = record { exponents' = facts.within'.exponents'; body' = omega (arith, room, amount) };
      room = λ p. omega (arith, more p, pieces);
    } in
    record {
      fits = piece_fits d.limits a.header l from until ks n next;
      held = holds_piece d.limits a.header l from until ks n d.ready next c.requires.free;
    }

pub returns-in-Some-clause-fed : goal.returns-in-Some-clause-fed
returns-in-Some-clause-fed c limits block given taken octets size ends f =
    let d = c.args.self.now in
    let a = c.args in
    let e = c.stop.new.self in
    let stop = c.stop.ensures in
    let at = subst (λ (s : State). IsRest limits s d.exponents.items d.body.items f.rest) c.requires.in_length f.state in
    let pieces : c.len-pieces.result ≡ length d.exponents.items = grind (arith, common_steps) in
    let from : c.len-from.result ≡ length d.body.items = grind (arith, common_steps) in
    let why = sym (length_fault-same d.limits limits c.kind_in.result (kind_in a.header) c.len-pieces.result (length d.exponents.items) c.len-from.result (length d.body.items) a.announced f.limits_kept c.kind_in.ensures pieces from) ∙ sym c.in-Some.ensures in
    let fault = length_faulty limits a.header (take a.count a.seen) octets d.exponents.items d.body.items f.rest a.announced c.in-Some.reason at ends why in
    let place : 1 + (length d.exponents.items + length d.body.items) ≡ 1 + (c.len-pieces.result + c.len-from.result) = omega (arith, pieces, from) in
    let state = subst (λ (s : State). IsRest limits s e.exponents.items e.body.items (f.rest ++ octets)) (sym stop.state)
    (λ (more : List ℕ). subst (λ (n : ℕ). PacketFault limits ((f.rest ++ octets) ++ more) c.in-Some.reason n) place (fault more)) in
    Fed-grows limits block d e given octets taken f stop.ready c.requires.free stop.limits stop.block stop.start (stop.count ∙ ap (λ (k : ℕ). d.given + k) (sym size)) state

pub returns-in-None-2-clause-fed : goal.returns-in-None-2-clause-fed
returns-in-None-2-clause-fed c limits block given taken octets size ends f =
    let d = c.args.self.now in
    let a = c.args in
    let at = subst (λ (s : State). IsRest limits s d.exponents.items d.body.items f.rest) c.requires.in_length f.state in
    let pieces : c.len-pieces.result ≡ length d.exponents.items = grind (arith, common_steps) in
    let from : c.len-from.result ≡ length d.body.items = grind (arith, common_steps) in
    let amount : c.amount-amount.result ≡ length_amount a.announced = c.amount-amount.ensures.value in
    let why = sym (length_fault-same d.limits limits c.kind_in.result (kind_in a.header) c.len-pieces.result (length d.exponents.items) c.len-from.result (length d.body.items) a.announced f.limits_kept c.kind_in.ensures pieces from) ∙ sym c.in-None-2.ensures in
    Fed-grows limits block d _ given octets taken f refl c.requires.free refl refl refl (ap (λ (k : ℕ). d.given + k) (sym size))
    (rw (from, amount) (length_good limits a.header (take a.count a.seen) octets d.exponents.items d.body.items f.rest a.announced at ends why, omega (arith, amount, c.if-amount-eq0.false)))

pub returns-in-None-clause-fed : goal.returns-in-None-clause-fed
returns-in-None-clause-fed c limits block given taken octets size ends f =
    let d = c.args.self.now in
    let a = c.args in
    let at = subst (λ (s : State). IsRest limits s d.exponents.items d.body.items f.rest) c.requires.in_length f.state in
    let pieces : c.len-pieces.result ≡ length d.exponents.items = grind (arith, common_steps) in
    let from : c.len-from.result ≡ length d.body.items = grind (arith, common_steps) in
    let none : length_amount a.announced ≡ 0 = sym c.amount-amount.ensures.value ∙ c.if-amount-eq0.true in
    let why = sym (length_fault-same d.limits limits c.kind_in.result (kind_in a.header) c.len-pieces.result (length d.exponents.items) c.len-from.result (length d.body.items) a.announced f.limits_kept c.kind_in.ensures pieces from) ∙ sym c.in-None.ensures in
    let piece = length_good limits a.header (take a.count a.seen) octets d.exponents.items d.body.items f.rest a.announced at ends why in
    let done = c.end_packet.ensures in
    let whole = done.whole limits (length d.body.items) (length d.body.items + length_amount a.announced) (f.rest ++ octets) piece (omega (arith, none)) (partial_some a.announced none) in
    let count = ap (λ (k : ℕ). d.given + k) (sym size) in
    Fed-ends limits block d c.end_packet.new.self given octets taken f c.requires.free done.limits done.block whole
    done.state done.empty.0 done.empty.1 (done.start ∙ count) (done.count ∙ count)
