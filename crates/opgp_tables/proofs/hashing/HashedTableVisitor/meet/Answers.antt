use Rattle.std.proofs.Common.{rules, ◌≡◌, ◌<◌, ◌-◌, ◌∙◌, append-nil, arith, length, Err, Ok, refl, sym}
use Rattle.std.proofs.lemmas.Bool.{le-leb, lt-leb}
use Rattle.std.proofs.Math.Dec.{leb-zero}
use Rattle.opgp_hash.specs.CertificateHasher.{hasher_subject}
use Rattle.opgp_hash.specs.Hashed.{hashed}
use Rattle.opgp_hash.specs.Question.{question_value}
use Rattle.opgp_report.specs.Asked.{asked_by}
use Rattle.opgp_report.specs.Standing.{Standing, stands}
use Rattle.opgp_tables.specs.declared.hashed_table.HashedTable.{HashedTable}
use Rattle.opgp_tables.proofs.Collecting.{closed, grown, passed, stopped}
use Rattle.opgp_tables.proofs.hashing.HashedTableVisitor.meet.Goals as goal

-- one that comes before those that are asked for
pub returns-then-self-gt0-clause-shown : goal.returns-then-self-gt0-clause-shown
returns-then-self-gt0-clause-shown c body reads = passed c.args.self.now (stands c.args.met.now.site c.args.met.now.place (hasher_subject c.args.hasher.now) body) c.if-self-gt0.true

-- none is asked for any more
pub returns-then-self-eq0-clause-shown : goal.returns-then-self-eq0-clause-shown
returns-then-self-eq0-clause-shown c body reads more =
    let old : HashedTable = c.args.self.now in
    rw c.halt.ensures (closed old (stands c.args.met.now.site c.args.met.now.place (hasher_subject c.args.hasher.now) body) more old.rows.items old.bytes.items c.if-self-eq0.true refl refl)

-- nothing is said where memory runs out
pub returns-in-Err-clause-shown : goal.returns-in-Err-clause-shown
returns-in-Err-clause-shown c body reads more = tt

-- one that isn't hashed gets no row, and needs no room
pub returns-in_default-clause-shown : goal.returns-in_default-clause-shown
returns-in_default-clause-shown c body reads more end =
    let old : HashedTable = c.args.self.now in
    let s : Standing = stands c.args.met.now.site c.args.met.now.place (hasher_subject c.args.hasher.now) body in
    let is : asked_by s ≡ Err c.in_default.field-0 = search rules in
    let first : old.skip ≡ 0 = search rules in
    let some : 0 < old.left = search rules in
    let new : HashedTable = record { skip = old.skip; left = old.left - 1; count = old.count; room = old.room; rows = old.rows; bytes = old.bytes; alloc = old.alloc; few = omega (arith, old.few) } in
    grown old new (Err c.in_default.field-0) s is first some (leb-zero old.room) first refl refl (omega arith) (sym (append-nil old.rows.items)) (sym (append-nil old.bytes.items)) more end

-- any other one gets a row
pub returns-in-Ok-true-clause-shown : goal.returns-in-Ok-true-clause-shown
returns-in-Ok-true-clause-shown c body reads more end =
    let s : Standing = stands c.args.met.now.site c.args.met.now.place (hasher_subject c.args.hasher.now) body in
    let q = question_value c.in-Question.question in
    let is : asked_by s ≡ Ok q = search rules in
    let first : c.args.self.now.skip ≡ 0 = search rules in
    let some : 0 < c.args.self.now.left = search rules in
    let kept = c.in-Ok-true.ensures in
    let done = kept.done c.in-Ok-true.field-0-test in
    let fit = le-leb (length (hashed q)) c.args.self.now.room done.0 in
    grown c.args.self.now c.add.new.self (Ok q) s is first some fit (kept.kept.0 ∙ first) kept.kept.1 kept.kept.2 done.1 done.2 done.3 more end

-- or there is no room for it
pub returns-in-Ok-false-clause-shown : goal.returns-in-Ok-false-clause-shown
returns-in-Ok-false-clause-shown c body reads more =
    let s : Standing = stands c.args.met.now.site c.args.met.now.place (hasher_subject c.args.hasher.now) body in
    let q = question_value c.in-Question.question in
    let is : asked_by s ≡ Ok q = search rules in
    let first : c.args.self.now.skip ≡ 0 = search rules in
    let some : 0 < c.args.self.now.left = search rules in
    let none = c.in-Ok-false.ensures.full c.in-Ok-false.field-0-test in
    let large = lt-leb (length (hashed q)) c.args.self.now.room none.0 in
    rw c.halt-in-Ok-false.ensures (stopped c.args.self.now (Ok q) s is first some more c.add.new.self.rows.items c.add.new.self.bytes.items large none.1 none.2)
