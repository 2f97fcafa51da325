-- A caller's table of subpackets that is filled by visiting signatures.
use Rattle.std.proofs.Common.{◌≡◌, ◌∙◌, ℕ, ◌+◌, ◌≤◌, List, [], ◌∷◌, ◌++◌, length, drop, Option, Some, Result, Ok, Err, refl, sym, ap, subst, arith, length-append, append-nil, zero-add, suc}
use Rattle.std.specs.List.{flat_map}
use Rattle.opgp_packet.specs.Subpackets.{Sub}
use Rattle.opgp_report.specs.declared.place.Place.{Place}
use Rattle.opgp_report.specs.Standing.{Standing}
use Rattle.opgp_keyring.specs.Keyring.{KeyringValue}
use Rattle.opgp_tables.specs.declared.subpacket_row.SubpacketRow.{SubpacketRow}
use Rattle.opgp_tables.specs.declared.table_sizes.TableSizes.{TableSizes}
use Rattle.opgp_tables.specs.Filling.{Fills}
use Rattle.opgp_tables.specs.declared.job_filler.NoRoom.{NoRoom}
use Rattle.opgp_tables.specs.declared.subpacket_filler.SubpacketFiller.{SubpacketFiller}
use Rattle.opgp_tables.specs.FilledSubpackets.{FillsSubpackets}
use Rattle.opgp_tables.specs.Subpackets.{area_octets, area_rows, areas_octets, areas_rows, octets_read, rows_read, subpacket_bytes, subpacket_octets, subpacket_row, subpacket_rows, subpackets_from, subs_of, subs_read}
use Rattle.opgp_octets.specs.declared.fault.BodyFault.{BodyFault}
use Rattle.opgp_packet.specs.Areas.{hashed_subs, unhashed_subs}
use Rattle.opgp_packet.specs.SignatureBody.{SignatureValue, signature_at}
use Rattle.opgp_packet.specs.SigView.{sig_view_value}
use Rattle.opgp_packet.specs.declared.sig_view.SigView.{SigView}
use Rattle.opgp_report.specs.Asked.{IsMet}
use Rattle.opgp_tables.proofs.FilledJobs.{both_within}
use Rattle.opgp_tables.proofs.Filling.{both, nothing}

pub area_end : (place : Place) (h : ℕ) (all : List Sub) (here : TableSizes) (rows : List SubpacketRow) (bytes : List ℕ) → all ≡ [] → here.rows ≤ length rows → here.bytes ≤ length bytes → Fills (area_rows place h here.bytes all) (area_octets all) here here rows rows bytes bytes
area_end place h [] here rows bytes e f g = nothing here rows bytes f g
area_end place h (s ∷ subs) here rows bytes e f g = cc

pub area_step : (place : Place) (h : ℕ) (s : Sub) (all subs : List Sub) (here mid there : TableSizes) (rows mid_rows rows' : List SubpacketRow) (bytes mid_bytes bytes' : List ℕ) → all ≡ s ∷ subs
    → Fills (subpacket_row place h here.bytes s ∷ []) s.octets here mid rows mid_rows bytes mid_bytes
    → Fills (area_rows place h mid.bytes subs) (area_octets subs) mid there mid_rows rows' mid_bytes bytes'
    → Fills (area_rows place h here.bytes all) (area_octets all) here there rows rows' bytes bytes'
area_step place h s all subs here mid there rows mid_rows rows' bytes mid_bytes bytes' e f g =
    let k : Fills (area_rows place h (here.bytes + length s.octets) subs) (area_octets subs) mid there mid_rows rows' mid_bytes bytes' =
    subst (λ (at : ℕ). Fills (area_rows place h at subs) (area_octets subs) mid there mid_rows rows' mid_bytes bytes') f.bytes_there g in
    subst (λ (l : List Sub). Fills (area_rows place h here.bytes l) (area_octets l) here there rows rows' bytes bytes') (sym e)
    (both (subpacket_row place h here.bytes s ∷ []) (area_rows place h (here.bytes + length s.octets) subs) s.octets (area_octets subs) here mid there rows mid_rows rows' bytes mid_bytes bytes' f k)

pub areas_both : (place : Place) (hashed unhashed : List Sub) (here mid there : TableSizes) (rows mid_rows rows' : List SubpacketRow) (bytes mid_bytes bytes' : List ℕ)
    → Fills (area_rows place 1 here.bytes hashed) (area_octets hashed) here mid rows mid_rows bytes mid_bytes
    → Fills (area_rows place 0 mid.bytes unhashed) (area_octets unhashed) mid there mid_rows rows' mid_bytes bytes'
    → Fills (areas_rows place here.bytes hashed unhashed) (areas_octets hashed unhashed) here there rows rows' bytes bytes'
areas_both place hashed unhashed here mid there rows mid_rows rows' bytes mid_bytes bytes' f g =
    let at : ℕ = here.bytes + length (area_octets hashed) in
    let h : Fills (area_rows place 0 at unhashed) (area_octets unhashed) mid there mid_rows rows' mid_bytes bytes' =
    subst (λ (at : ℕ). Fills (area_rows place 0 at unhashed) (area_octets unhashed) mid there mid_rows rows' mid_bytes bytes') f.bytes_there g in
    both (area_rows place 1 here.bytes hashed) (area_rows place 0 at unhashed) (area_octets hashed) (area_octets unhashed) here mid there rows mid_rows rows' bytes mid_bytes bytes' f h

pub area_many : (place : Place) (h at : ℕ) (subs : List Sub) → length (area_rows place h at subs) ≡ length subs
area_many place h at [] = refl
area_many place h at (s ∷ subs) = ap (λ n. suc n) (area_many place h (at + length s.octets) subs)

put_both : (rows_one : List SubpacketRow) (s : Standing) (more : List Standing) (here mid there : TableSizes) (rows rows1 rows' : List SubpacketRow) (bytes bytes1 bytes' : List ℕ)
    → Fills (rows_read s.place here.bytes (signature_at s.body)) (subpacket_octets s) here mid rows rows1 bytes bytes1
    → Fills (subpackets_from mid.bytes more) (flat_map subpacket_octets more) mid there rows1 rows' bytes1 bytes'
    → Fills (subpackets_from here.bytes (s ∷ more)) (flat_map subpacket_octets (s ∷ more)) here there rows rows' bytes bytes'
put_both rows_one s more here mid there rows rows1 rows' bytes bytes1 bytes' f g =
    let h : Fills (subpackets_from (here.bytes + length (subpacket_octets s)) more) (flat_map subpacket_octets more) mid there rows1 rows' bytes1 bytes' =
    subst (λ (at : ℕ). Fills (subpackets_from at more) (flat_map subpacket_octets more) mid there rows1 rows' bytes1 bytes') f.bytes_there g in
    both (rows_read s.place here.bytes (signature_at s.body)) (subpackets_from (here.bytes + length (subpacket_octets s)) more) (subpacket_octets s) (flat_map subpacket_octets more) here mid there rows rows1 rows' bytes bytes1 bytes' f h

pub sub_step : {E : Type 0} (old new : SubpacketFiller) (s : Standing) (more : List Standing) (hashed unhashed : List Sub)
    → rows_read s.place old.here.bytes (signature_at s.body) ≡ areas_rows s.place old.here.bytes hashed unhashed
    → subs_of s ≡ hashed ++ unhashed → subpacket_octets s ≡ areas_octets hashed unhashed
    → Fills (areas_rows s.place old.here.bytes hashed unhashed) (areas_octets hashed unhashed) old.here new.here old.rows.now new.rows.now old.bytes.now new.bytes.now
    → length new.rows.now ≡ length old.rows.now → length new.bytes.now ≡ length old.bytes.now
    → new.rows.ghost_name ≡ old.rows.ghost_name → new.bytes.ghost_name ≡ old.bytes.ghost_name
    → (end : Result SubpacketFiller E) → FillsSubpackets new more end → FillsSubpackets old (s ∷ more) end
sub_step old new s more hashed unhashed e d o f m n r b (Ok u) (g, v, w) =
    let first : Fills (rows_read s.place old.here.bytes (signature_at s.body)) (subpacket_octets s) old.here new.here old.rows.now new.rows.now old.bytes.now new.bytes.now =
    subst (λ (p : List ℕ). Fills (rows_read s.place old.here.bytes (signature_at s.body)) p old.here new.here old.rows.now new.rows.now old.bytes.now new.bytes.now) (sym o)
    (subst (λ (p : List SubpacketRow). Fills p (areas_octets hashed unhashed) old.here new.here old.rows.now new.rows.now old.bytes.now new.bytes.now) (sym e) f) in
    (put_both [] s more old.here new.here u.here old.rows.now new.rows.now u.rows.now old.bytes.now new.bytes.now u.bytes.now first g, v ∙ r, w ∙ b)
sub_step old new s more hashed unhashed e d o f m n r b (Err refusal) g =
    let long : length (areas_rows s.place old.here.bytes hashed unhashed) ≡ length hashed + length unhashed =
    omega (arith, length-append (area_rows s.place 1 old.here.bytes hashed) (area_rows s.place 0 (old.here.bytes + length (area_octets hashed)) unhashed), area_many s.place 1 old.here.bytes hashed, area_many s.place 0 (old.here.bytes + length (area_octets hashed)) unhashed) in
    λ h i. g (omega (arith, h, m, f.rows_there, long, ap (λ l. length l) d, length-append hashed unhashed, length-append (subs_of s) (flat_map subs_of more)))
    (omega (arith, i, n, f.bytes_there, ap (λ l. length l) o, length-append (subpacket_octets s) (flat_map subpacket_octets more)))

-- a signature that is met, with its two areas
pub areas_met : (place : Place) (at : ℕ) (met : Option SigView) (view : SigView) (read : Result SignatureValue BodyFault) (hashed unhashed : List Sub) → met ≡ Some view → IsMet met read
    → (hashed ≡ hashed_subs (sig_view_value view)) × (unhashed ≡ unhashed_subs (sig_view_value view))
    → (rows_read place at read ≡ areas_rows place at hashed unhashed) × (subs_read read ≡ hashed ++ unhashed) × (octets_read read ≡ areas_octets hashed unhashed)
areas_met place at met view read hashed unhashed is reads areas =
    let v : SignatureValue = sig_view_value view in
    let e : read ≡ Ok v = subst (λ (m : Option SigView). IsMet m read) is reads in (
      ap (λ (r : Result SignatureValue BodyFault). rows_read place at r) e ∙ sym (ap (λ (l : List Sub). areas_rows place at l unhashed) areas.0 ∙ ap (λ (l : List Sub). areas_rows place at (hashed_subs v) l) areas.1),
      ap (λ (r : Result SignatureValue BodyFault). subs_read r) e ∙ sym (ap (λ (l : List Sub). l ++ unhashed) areas.0 ∙ ap (λ (l : List Sub). hashed_subs v ++ l) areas.1),
      ap (λ (r : Result SignatureValue BodyFault). octets_read r) e ∙ sym (ap (λ (l : List Sub). areas_octets l unhashed) areas.0 ∙ ap (λ (l : List Sub). areas_octets (hashed_subs v) l) areas.1),
    )

-- its rows are put where those of its areas are
pub areas_fill : (place there_place : Place) (read : Result SignatureValue BodyFault) (view : SigView) (hashed unhashed : List Sub) (here there : TableSizes) (rows rows' : List SubpacketRow) (bytes bytes' : List ℕ)
    → place ≡ there_place → read ≡ Ok (sig_view_value view) → (hashed ≡ hashed_subs (sig_view_value view)) × (unhashed ≡ unhashed_subs (sig_view_value view))
    → Fills (areas_rows place here.bytes hashed unhashed) (areas_octets hashed unhashed) here there rows rows' bytes bytes'
    → Fills (rows_read there_place here.bytes read) (octets_read read) here there rows rows' bytes bytes'
areas_fill place there_place read view hashed unhashed here there rows rows' bytes bytes' p e areas f =
    let a = areas_met place here.bytes (Some view) view read hashed unhashed refl e areas in
    subst (λ (q : Place). Fills (rows_read q here.bytes read) (octets_read read) here there rows rows' bytes bytes') p
    (subst (λ (l : List SubpacketRow). Fills l (octets_read read) here there rows rows' bytes bytes') (sym a.0)
    (subst (λ (o : List ℕ). Fills (areas_rows place here.bytes hashed unhashed) o here there rows rows' bytes bytes') (sym a.2) f))

pub all_put : (r : KeyringValue) (there : TableSizes) (rows rows' : List SubpacketRow) (bytes bytes' : List ℕ)
    → Fills (subpacket_rows r) (subpacket_bytes r) (record { rows = 0; bytes = 0 }) there rows rows' bytes bytes'
    → (rows' ≡ subpacket_rows r ++ drop (length (subpacket_rows r)) rows) × (bytes' ≡ subpacket_bytes r ++ drop (length (subpacket_bytes r)) bytes)
all_put r there rows rows' bytes bytes' g =
    (g.rows_put ∙ ap (λ n. subpacket_rows r ++ drop n rows) (zero-add (length (subpacket_rows r))), g.bytes_put ∙ ap (λ n. subpacket_bytes r ++ drop n bytes) (zero-add (length (subpacket_bytes r))))

pub visited : (old new : SubpacketFiller) (list : List Standing) (refusal : NoRoom) → ((more : List Standing) (end : Result SubpacketFiller NoRoom) → FillsSubpackets {E = NoRoom} new more end → FillsSubpackets {E = NoRoom} old (list ++ more) end)
    → old.here.rows + length (flat_map subs_of list) ≤ length old.rows.now → old.here.bytes + length (flat_map subpacket_octets list) ≤ length old.bytes.now → FillsSubpackets {E = NoRoom} old list (Ok new)
visited old new list refusal leaves h k =
    let e : list ++ [] ≡ list = append-nil list in
    let room : (new.here.rows ≤ length new.rows.now) × (new.here.bytes ≤ length new.bytes.now) = both_within new.here.rows (length new.rows.now) new.here.bytes (length new.bytes.now)
    (λ none. leaves [] (Err refusal) (λ a b. none (omega (arith, a)) (omega (arith, b))) (omega (arith, h, ap (λ (l : List Standing). length (flat_map subs_of l)) e)) (omega (arith, k, ap (λ (l : List Standing). length (flat_map subpacket_octets l)) e))) in
    subst (λ (l : List Standing). FillsSubpackets {E = NoRoom} old l (Ok new)) e
    (leaves [] (Ok new) (nothing new.here new.rows.now new.bytes.now room.0 room.1, refl, refl))
