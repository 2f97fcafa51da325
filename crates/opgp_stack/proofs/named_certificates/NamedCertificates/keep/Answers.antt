use Rattle.std.proofs.Common.{map}
use Rattle.std.proofs.lemmas.Result.{on_ok_weaker}
use Rattle.opgp_codec.specs.Draft.{DraftHas}
use Rattle.opgp_stack.specs.KeyName.{name_octets}
use Rattle.opgp_stack.proofs.Named.{named_here, named_lead, named_passed, other_test, same_test}
use Rattle.opgp_stack.proofs.named_certificates.NamedCertificates.keep.Goals as goal

pub returns-in_default-clause-named : goal.returns-in_default-clause-named
returns-in_default-clause-named g c = rw c.in_default.ensures.1 (λ parts h. named_lead (DraftHas g.S.Spool.serves g.S.Spool.tells g.S.Spool.holds g.S.Spool.has_failed) c.args.self.now.out (map name_octets c.args.self.now.wanted.names.now) c.args.self.now.except _ _ parts _ h)

pub returns-then-has-self-clause-named : goal.returns-then-has-self-clause-named
returns-then-has-self-clause-named g c =
    rw c.in-Some.ensures (λ parts h. named_passed (DraftHas g.S.Spool.serves g.S.Spool.tells g.S.Spool.holds g.S.Spool.has_failed) c.args.self.now.out (map name_octets c.args.self.now.wanted.names.now) c.args.self.now.except c.args.self.now.wanted.notes c.note-has.new.self.notes c.note-has.result _ parts c.in-Some.certificate
    c.note-has.ensures.noted (same_test c.note-has.result c.args.self.now.except c.if-has-self.true) h)

pub returns-clause-named : goal.returns-clause-named
returns-clause-named g c =
    on_ok_weaker c.given_back.result (λ e. rw c.in-Some.ensures (λ parts h. named_here (DraftHas g.S.Spool.serves g.S.Spool.tells g.S.Spool.holds g.S.Spool.has_failed) c.args.self.now.out (map name_octets c.args.self.now.wanted.names.now) c.args.self.now.except c.args.self.now.wanted.notes c.note-has.new.self.notes c.note-has.result _ _ parts c.in-Some.certificate
    c.note-has.ensures.noted (other_test c.note-has.result c.args.self.now.except c.if-has-self.false) (rw e at c.add_alone-added.ensures) h)) c.given_back.ensures.added
