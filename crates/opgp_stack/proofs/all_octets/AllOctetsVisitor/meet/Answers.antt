use Rattle.std.proofs.Common.{List, ap}
use Rattle.opgp_codec.specs.Draft.{DraftHas}
use Rattle.opgp_hash.specs.CertificateHasher.{hasher_subject}
use Rattle.opgp_packet.specs.SignatureBody.{signature_at}
use Rattle.opgp_report.specs.Asked.{Asked, question_of}
use Rattle.opgp_report.specs.Standing.{stands}
use Rattle.opgp_stack.specs.AllOctets.{HasRows}
use Rattle.opgp_stack.specs.declared.all_octets.AllOctets.{AllOctets}
use Rattle.opgp_stack.proofs.AllRows.{row_added, row_passed, shown_row}
use Rattle.opgp_stack.proofs.all_octets.AllOctetsVisitor.meet.Goals as goal

-- the row of a signature that is hashed
pub returns-in_ok-count_row-in-Question-clause-shown : goal.returns-in_ok-count_row-in-Question-clause-shown
returns-in_ok-count_row-in-Question-clause-shown g c body met =
    let has = DraftHas g.S.Spool.serves g.S.Spool.tells g.S.Spool.holds g.S.Spool.has_failed in
    let done = c.in_ok-count_row-in-Question.ensures in
    shown_row (λ (k : AllOctets g.row.S.Denot) (asked : List Asked). HasRows has k.rows k.draft asked) c.args.self.now c.count_row.new.self (stands c.args.met.now.site c.args.met.now.place (hasher_subject c.args.hasher.now) body)
    (λ asked h. row_added has _ _ _ _ _ _ asked _ _ (ap question_of (c.in-Question.ensures.exact (signature_at body) met)) c.in_ok-add_octets-in-Question.ensures.rows done.rows done.draft c.in_ok-add_octets-in-Question.ensures.text h)

-- and of one that isn't
pub returns-in_ok-count_row-in-Nothing-clause-shown : goal.returns-in_ok-count_row-in-Nothing-clause-shown
returns-in_ok-count_row-in-Nothing-clause-shown g c body met =
    let has = DraftHas g.S.Spool.serves g.S.Spool.tells g.S.Spool.holds g.S.Spool.has_failed in
    let done = c.in_ok-count_row-in-Nothing.ensures in
    shown_row (λ (k : AllOctets g.row.S.Denot) (asked : List Asked). HasRows has k.rows k.draft asked) c.args.self.now c.count_row-in-Nothing.new.self (stands c.args.met.now.site c.args.met.now.place (hasher_subject c.args.hasher.now) body)
    (λ asked h. row_passed has _ _ _ _ asked _ _ (ap question_of (c.in-Nothing.ensures.exact (signature_at body) met)) done.rows done.draft h)
