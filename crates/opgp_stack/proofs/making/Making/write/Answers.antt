use Rattle.std.proofs.Common.{◌⊎◌, inl, inr, refl}
use Rattle.opgp_codec.specs.Draft.{DraftHas}
use Rattle.opgp_stack.specs.Making.{ring_made}
use Rattle.opgp_stack.specs.Running.{IsMade, IsSpooled, Made}
use Rattle.opgp_stack.proofs.RingMade.{drafted, ends_so, fingerprinted_made, found_so, merged_so, named_made_by, nth_so, octets_made, placed_made, report_made, row_so, text_made}
use Rattle.opgp_stack.proofs.making.Making.write.Goals as goal

pub returns-in-Text : goal.returns-in-Text
returns-in-Text g c r h =
    inr (drafted (DraftHas g.S.Spool.serves g.S.Spool.tells g.S.Spool.holds g.S.Spool.has_failed) (IsSpooled g.S.Spool.serves g.S.Spool.tells g.W.Sink.held g.W.Sink.has_failed c.args.writer.now c.write_draft.new.writer c.write_draft.result) c.args.action c.in-Text.text.draft c.into_draft.result c.out_of-out.result r c.into_draft.ensures c.out_of-out.ensures c.write_draft.ensures (text_made (DraftHas g.S.Spool.serves g.S.Spool.tells g.S.Spool.holds g.S.Spool.has_failed) c.args.action c.in-Text.text r (rw c.in-Text.is at h)))

pub returns-in-Named : goal.returns-in-Named
returns-in-Named g c r h =
    found_so (DraftHas g.S.Spool.serves g.S.Spool.tells g.S.Spool.holds g.S.Spool.has_failed) (λ (made : Made). IsMade g.W.Sink.held g.W.Sink.has_failed c.args.writer.now c.write_found.new.writer c.write_found.result made ⊎ IsSpooled g.S.Spool.serves g.S.Spool.tells g.W.Sink.held g.W.Sink.has_failed c.args.writer.now c.write_found.new.writer c.write_found.result made) c.args.action c.found-text.result.1 c.found-text.result.1 c.in-Named.named.draft c.found-text.result.0 r refl c.found-text.ensures.draft
    c.write_found.ensures (named_made_by (DraftHas g.S.Spool.serves g.S.Spool.tells g.S.Spool.holds g.S.Spool.has_failed) c.args.action c.in-Named.named c.found-text.result.1 r c.found-text.ensures.found (rw c.in-Named.is at h))

pub returns-in-Nth : goal.returns-in-Nth
returns-in-Nth g c r h =
    inl (ends_so (IsMade g.W.Sink.held g.W.Sink.has_failed c.args.writer.now c.write_one.new.writer) c.done.result c.write_one.result _ (ring_made c.args.action r) c.done.ensures (nth_so (DraftHas g.S.Spool.serves g.S.Spool.tells g.S.Spool.holds g.S.Spool.has_failed) c.args.action c.in-Nth.nth c.out_of-out.result c.found-found.result r c.out_of-out.ensures c.found-found.ensures (rw c.in-Nth.is at h)) c.write_one.ensures)

pub returns-in-Row : goal.returns-in-Row
returns-in-Row g c r h =
    inl (ends_so (IsMade g.W.Sink.held g.W.Sink.has_failed c.args.writer.now c.write_row.new.writer) c.done-in-Row.result c.write_row.result _ (ring_made c.args.action r) c.done-in-Row.ensures (row_so (DraftHas g.S.Spool.serves g.S.Spool.tells g.S.Spool.holds g.S.Spool.has_failed) c.args.action c.in-Row.row c.explains_of.result c.found-found-in-Row.result.0 c.found-found-in-Row.result.1 r c.explains_of.ensures c.found-found-in-Row.ensures.ring c.found-found-in-Row.ensures.left (rw c.in-Row.is at h)) c.write_row.ensures)

pub returns-in-Report : goal.returns-in-Report
returns-in-Report g c r h =
    inl (ends_so (IsMade g.W.Sink.held g.W.Sink.has_failed c.args.writer.now c.write_rows.new.writer) c.done-in-Report.result c.write_rows.result _ (ring_made c.args.action r) c.done-in-Report.ensures (report_made (DraftHas g.S.Spool.serves g.S.Spool.tells g.S.Spool.holds g.S.Spool.has_failed) c.args.action c.in-Report.rows c.report-report.result r c.report-report.ensures (rw c.in-Report.is at h)) c.write_rows.ensures)

pub returns-in-Fingerprinted : goal.returns-in-Fingerprinted
returns-in-Fingerprinted g c r h =
    inl (ends_so (IsMade g.W.Sink.held g.W.Sink.has_failed c.args.writer.now c.write_fingerprinted.new.writer) c.done-in-Fingerprinted.result c.write_fingerprinted.result _ (ring_made c.args.action r) c.done-in-Fingerprinted.ensures (fingerprinted_made (DraftHas g.S.Spool.serves g.S.Spool.tells g.S.Spool.holds g.S.Spool.has_failed) c.args.action c.in-Fingerprinted.rows c.report-report-in-Fingerprinted.result r c.report-report-in-Fingerprinted.ensures (rw c.in-Fingerprinted.is at h)) c.write_fingerprinted.ensures)

pub returns-in-Placed : goal.returns-in-Placed
returns-in-Placed g c r h =
    inl (ends_so (IsMade g.W.Sink.held g.W.Sink.has_failed c.args.writer.now c.write_placed.new.writer) c.done-in-Placed.result c.write_placed.result _ (ring_made c.args.action r) c.done-in-Placed.ensures (placed_made (DraftHas g.S.Spool.serves g.S.Spool.tells g.S.Spool.holds g.S.Spool.has_failed) c.args.action c.in-Placed.rows c.report-placed.result.0 c.report-placed.result.1.items r c.report-placed.ensures.rows c.report-placed.ensures.places (rw c.in-Placed.is at h)) c.write_placed.ensures)

pub returns-in-AllOctets : goal.returns-in-AllOctets
returns-in-AllOctets g c r h =
    inr (drafted (DraftHas g.S.Spool.serves g.S.Spool.tells g.S.Spool.holds g.S.Spool.has_failed) (IsSpooled g.S.Spool.serves g.S.Spool.tells g.W.Sink.held g.W.Sink.has_failed c.args.writer.now c.write_draft-in-AllOctets.new.writer c.write_draft-in-AllOctets.result) c.args.action c.in-AllOctets.octets.draft c.into_draft-in-AllOctets.result c.out_of-out.result r c.into_draft-in-AllOctets.ensures c.out_of-out.ensures c.write_draft-in-AllOctets.ensures (octets_made (DraftHas g.S.Spool.serves g.S.Spool.tells g.S.Spool.holds g.S.Spool.has_failed) c.args.action c.in-AllOctets.octets r (rw c.in-AllOctets.is at h)))

pub returns-in-Ring : goal.returns-in-Ring
returns-in-Ring g c r h =
    inl (ends_so (IsMade g.W.Sink.held g.W.Sink.has_failed c.args.writer.now c.write_merged.new.writer) c.write_merged.result c.write_merged.result _ (ring_made c.args.action r) refl (merged_so (DraftHas g.S.Spool.serves g.S.Spool.tells g.S.Spool.holds g.S.Spool.has_failed) c.args.action c.in-Ring.ring c.out_of-out.result r c.out_of-out.ensures (rw c.in-Ring.is at h)) c.write_merged.ensures)
