-- What an action made of all parts of a keyring is what it makes of the keyring.
use denote.Ref.{Bor}
use Rattle.std.proofs.Common.{◌≡◌, ◌∙◌, ℕ, Bool, List, map, Option, Some, None, true, false, refl, sym, ap, subst}
use Rattle.std.specs.List.{flat_map}
use Rattle.opgp_keyring.specs.Composed.{parts_of}
use Rattle.opgp_keyring.specs.Keyring.{CertificateValue, KeyringValue, flat}
use Rattle.opgp_keyring.proofs.Parts.{same_parts}
use Rattle.opgp_merge.specs.Merged.{merged_of}
use Rattle.opgp_report.specs.Asked.{asked_of}
use Rattle.opgp_report.specs.Fingerprinted.{FingerprintedValue, fingerprinted_report_of}
use Rattle.opgp_report.specs.Fingerprinting.{ReportsPrints, fingerprinted_rows_of}
use Rattle.opgp_report.specs.Left.{says_left}
use Rattle.opgp_report.specs.Report.{report_of}
use Rattle.opgp_report.specs.Reporting.{Reports}
use Rattle.opgp_report.specs.Row.{report_rows}
use Rattle.opgp_report.specs.RowValue.{RowValue}
use Rattle.opgp_report.specs.declared.fingerprinted.FingerprintedReport.{FingerprintedReport}
use Rattle.opgp_report.specs.declared.report.Report.{Report}
use Rattle.opgp_codec.specs.declared.draft.Draft.{Draft}
use Rattle.opgp_codec.specs.declared.out.Out.{Out}
use Rattle.opgp_codec.specs.Writing.{certificates_text, octets_text, packets_text}
use Rattle.opgp_stack.specs.AllOctets.{octets_rows}
use Rattle.opgp_stack.specs.ByKey.{HasNamed}
use Rattle.opgp_stack.specs.WantedKeys.{AreNotes, keys_of}
use Rattle.opgp_stack.specs.KeyName.{missing_in, name_octets, picked}
use Rattle.opgp_stack.specs.Making.{HasMade, HasNames, HasTexts, explains_of, is_of_parts, out_of, ring_made}
use Rattle.opgp_stack.specs.OnePart.{asked_among, found_question}
use Rattle.opgp_stack.specs.PartText.{text_of_part}
use Rattle.opgp_state.specs.Places.{placed_lines, places_of}
use Rattle.opgp_state.specs.Placing.{HasPlaces}
use Rattle.opgp_state.specs.Report.{fingerprinted_lines, report_lines}
use Rattle.opgp_state.specs.declared.row_place.RowPlace.{RowPlace}
use Rattle.opgp_stack.specs.Running.{Made, MakesBy, OfRing, Text, found_made, one_text, question_made}
use Rattle.opgp_stack.specs.declared.all_octets.AllOctets.{AllOctets}
use Rattle.opgp_stack.specs.declared.checking.Checking.{Checking}
use Rattle.opgp_stack.specs.declared.checking_fingerprints.CheckingFingerprints.{CheckingFingerprints}
use Rattle.opgp_stack.specs.declared.checking_places.CheckingPlaces.{CheckingPlaces}
use Rattle.opgp_stack.specs.declared.key_name.KeyName.{KeyName}
use Rattle.opgp_stack.specs.declared.keyring_text.KeyringText.{KeyringText}
use Rattle.opgp_stack.specs.declared.making.Making.TheVariants as making
use Rattle.opgp_stack.specs.declared.named_certificates.NamedCertificates.{NamedCertificates}
use Rattle.opgp_stack.specs.declared.nth_certificate.NthCertificate.{NthCertificate}
use Rattle.opgp_stack.specs.declared.part_text.PartText.{PartText}
use Rattle.opgp_stack.specs.declared.part_text.PartText.TheVariants as texts
use Rattle.opgp_stack.specs.declared.row_found.RowFound.{RowFound}
use Rattle.opgp_stack.specs.declared.task.Action.{Action}
use Rattle.opgp_stack.specs.declared.task.Action.TheVariants as action
use Rattle.opgp_stack.specs.declared.task.Task.{Task}
use Rattle.opgp_stack.specs.declared.task.Top.TheVariants as top
use Rattle.opgp_stack.proofs.Looking.{nth_of_ring, ring_certificates, row_of_ring}
use Rattle.opgp_stack.proofs.PartTexts.{alone_text, chosen_text, lines_text, normal_text, packets_text_of, valued_lines_text}

-- what an action makes of a keyring is what it makes of the octets
pub makes_ring : (a : Action) → is_of_parts a ≡ true → (task : Task) (octets : List ℕ) (made : Made) → OfRing (ring_made a) task octets made → MakesBy a task octets made
makes_ring action.Show is task octets made h = absurd cc
makes_ring action.ShowValues is task octets made h = absurd cc
makes_ring action.List is task octets made h = h
makes_ring action.ListValues is task octets made h = h
makes_ring action.Check is task octets made h = h
makes_ring action.CheckFingerprints is task octets made h = h
makes_ring action.CheckPlaces is task octets made h = h
makes_ring (action.Octets row top.Ring) is task octets made h = h
makes_ring (action.Explain row top.Ring) is task octets made h = h
makes_ring (action.Octets row top.Literal) is task octets made h = absurd cc
makes_ring (action.Explain row top.Literal) is task octets made h = absurd cc
makes_ring action.OctetsAll is task octets made h = h
makes_ring (action.Write out) is task octets made h = h
makes_ring (action.WriteChosen out choice) is task octets made h = h
makes_ring (action.Normalise out) is task octets made h = h
makes_ring (action.Split out None) is task octets made h = h
makes_ring (action.Split out (Some n)) is task octets made h = h
makes_ring (action.SplitKeys out keys except) is task octets made h = h
makes_ring (action.Join out false) is task octets made h = h
makes_ring (action.Join out true) is task octets made h = h

module _ {S : Type 0} (has : Draft S → List ℕ → Type 0) where
  -- a text
  abbrev Drafts : Action → Draft S → KeyringValue → Type 0
  Drafts a draft r = (text : List ℕ) × has draft text × (Text (octets_text (out_of a) text) ≡ ring_made a r)

  drafts : (a : Action) (text : PartText) (k : KeyringText S) (r : KeyringValue) → Text (octets_text (out_of a) (flat_map (text_of_part text) (parts_of r))) ≡ ring_made a r → HasTexts has text k (parts_of r) → Drafts a k.draft r
  drafts a text k r same h = (flat_map (text_of_part text) (parts_of r), h.1, same)

  written : (out : Out) (given made : List ℕ) → given ≡ made → Text (octets_text out given) ≡ Text (octets_text out made)
  written out given made e = ap (λ (o : List ℕ). Text (octets_text out o)) e

  pub text_made : (a : Action) (k : KeyringText S) (r : KeyringValue) → HasMade has a (making.Text k) (parts_of r) → Drafts a k.draft r
  unfolding HasMade
  text_made action.List k r h = drafts action.List texts.Lines k r (ap Text (lines_text r)) h
  text_made action.ListValues k r h = drafts action.ListValues texts.ValuedLines k r (ap Text (valued_lines_text r)) h
  text_made (action.Write out) k r h = drafts (action.Write out) texts.AsTheyAre k r (written out _ _ (packets_text_of r)) h
  text_made (action.WriteChosen out choice) k r h = drafts (action.WriteChosen out choice) (texts.Chosen choice) k r (written out _ _ (chosen_text choice r)) h
  text_made (action.Normalise out) k r h = drafts (action.Normalise out) texts.Normalised k r (written out _ _ (normal_text r)) h
  text_made (action.Split out None) k r h = drafts (action.Split out None) (texts.Alone out) k r (ap Text (alone_text out r)) h
  text_made (action.Join out false) k r h = drafts (action.Join out false) texts.AsTheyAre k r (written out _ _ (packets_text_of r)) h
  text_made action.Show k r h = absurd h
  text_made action.ShowValues k r h = absurd h
  text_made action.Check k r h = absurd h
  text_made action.CheckFingerprints k r h = absurd h
  text_made action.CheckPlaces k r h = absurd h
  text_made (action.Octets row top.Ring) k r h = absurd h
  text_made (action.Explain row top.Ring) k r h = absurd h
  text_made (action.Octets row top.Literal) k r h = absurd h
  text_made (action.Explain row top.Literal) k r h = absurd h
  text_made action.OctetsAll k r h = absurd h
  text_made (action.Split out (Some n)) k r h = absurd h
  text_made (action.SplitKeys out keys except) k r h = absurd h
  text_made (action.Join out true) k r h = absurd h

  -- certificates with a key of a name
  abbrev Finds : Action → Option ℕ → Draft S → KeyringValue → Type 0
  Finds a found draft r = (text : List ℕ) × has draft text × (found_made found text ≡ ring_made a r)

  -- what was found of them, as it is told once all certificates came
  abbrev FoundOf : NamedCertificates S → Option ℕ → Type 0
  FoundOf k found = (cs : List CertificateValue) → AreNotes (map name_octets k.wanted.names.now) (keys_of cs) k.wanted.notes → found ≡ missing_in (map name_octets k.wanted.names.now) cs

  names_made : (out : Out) (keys : Bor (List KeyName)) (except : Bool) (k : NamedCertificates S) (found : Option ℕ) (r : KeyringValue) → FoundOf k found → HasNames has out keys except k (parts_of r) → Finds (action.SplitKeys out keys except) found k.draft r
  names_made out keys except k found r is h =
      let names = map name_octets keys.now in
      let named : HasNamed has out names except k.wanted.notes k.draft r.certificates = subst (HasNamed has out names except k.wanted.notes k.draft) (ring_certificates r) h.3 in
      let there : found ≡ missing_in names r.certificates =
      subst (λ (ks : Bor (List KeyName)). AreNotes (map name_octets ks.now) (keys_of r.certificates) k.wanted.notes → found ≡ missing_in (map name_octets ks.now) r.certificates) h.2 (is r.certificates) named.noted in
      (certificates_text out (picked names except r.certificates), named.text, ap (λ (b : Option ℕ). found_made b (certificates_text out (picked names except r.certificates))) there)

  pub named_made_by : (a : Action) (k : NamedCertificates S) (found : Option ℕ) (r : KeyringValue) → FoundOf k found → HasMade has a (making.Named k) (parts_of r) → Finds a found k.draft r
  unfolding HasMade
  named_made_by (action.SplitKeys out keys except) k found r is h = names_made out keys except k found r is h
  named_made_by (action.Octets row top.Ring) k found r is h = absurd h
  named_made_by (action.Explain row top.Ring) k found r is h = absurd h
  named_made_by (action.Octets row top.Literal) k found r is h = absurd h
  named_made_by (action.Explain row top.Literal) k found r is h = absurd h
  named_made_by (action.Split out None) k found r is h = absurd h
  named_made_by (action.Split out (Some n)) k found r is h = absurd h
  named_made_by (action.Join out false) k found r is h = absurd h
  named_made_by (action.Join out true) k found r is h = absurd h
  named_made_by other k found r is h = absurd h

  -- the certificate of a number
  nth_made : (a : Action) (k : NthCertificate) (r : KeyringValue) → HasMade has a (making.Nth k) (parts_of r) → one_text (out_of a) k.found ≡ ring_made a r
  unfolding HasMade
  nth_made (action.Split out (Some n)) k r h = ap (one_text out) (sym (nth_of_ring n k.left k.found r h))
  nth_made (action.Split out None) k r h = absurd h
  nth_made (action.Octets row top.Ring) k r h = absurd h
  nth_made (action.Explain row top.Ring) k r h = absurd h
  nth_made (action.Octets row top.Literal) k r h = absurd h
  nth_made (action.Explain row top.Literal) k r h = absurd h
  nth_made (action.Join out false) k r h = absurd h
  nth_made (action.Join out true) k r h = absurd h
  nth_made other k r h = absurd h

  pub nth_so : (a : Action) (k : NthCertificate) (out : Out) (found : Option CertificateValue) (r : KeyringValue) → out ≡ out_of a → found ≡ k.found → HasMade has a (making.Nth k) (parts_of r) → one_text out found ≡ ring_made a r
  nth_so a k out found r same is h = rw (same, is) (nth_made a k r h)

  -- the row of a number
  row_made : (a : Action) (k : RowFound) (r : KeyringValue) → HasMade has a (making.Row k) (parts_of r) → question_made (explains_of a) (found_question k.found k.left) ≡ ring_made a r
  unfolding HasMade
  row_made (action.Octets row top.Ring) k r h = ap (question_made false) (sym (row_of_ring row k.left k.found r h))
  row_made (action.Explain row top.Ring) k r h = ap (question_made true) (sym (row_of_ring row k.left k.found r h))
  row_made (action.Octets row top.Literal) k r h = absurd h
  row_made (action.Explain row top.Literal) k r h = absurd h
  row_made (action.Split out None) k r h = absurd h
  row_made (action.Split out (Some n)) k r h = absurd h
  row_made (action.Join out false) k r h = absurd h
  row_made (action.Join out true) k r h = absurd h
  row_made other k r h = absurd h

  pub row_so : (a : Action) (k : RowFound) (explains : Bool) (found : Option KeyringValue) (left : ℕ) (r : KeyringValue) → explains ≡ explains_of a → found ≡ k.found → left ≡ k.left → HasMade has a (making.Row k) (parts_of r) → question_made explains (found_question found left) ≡ ring_made a r
  row_so a k explains found left r e is same h = rw (e, is, same) (row_made a k r h)

  -- reports
  pub report_made : (a : Action) (k : Checking) (report : Report) (r : KeyringValue) → ((s : KeyringValue) → Reports k.rows s.certificates → report_rows report ≡ report_of says_left s) → HasMade has a (making.Report k) (parts_of r)
      → Text (report_lines 0 (report_rows report)) ≡ ring_made a r
  unfolding HasMade
  report_made action.Check k report r by h = ap (λ (rows : List RowValue). Text (report_lines 0 rows)) (by r (subst (λ (cs : List CertificateValue). Reports k.rows cs) (ring_certificates r) h))
  report_made (action.Octets row top.Ring) k report r by h = absurd h
  report_made (action.Explain row top.Ring) k report r by h = absurd h
  report_made (action.Octets row top.Literal) k report r by h = absurd h
  report_made (action.Explain row top.Literal) k report r by h = absurd h
  report_made (action.Split out None) k report r by h = absurd h
  report_made (action.Split out (Some n)) k report r by h = absurd h
  report_made (action.Join out false) k report r by h = absurd h
  report_made (action.Join out true) k report r by h = absurd h
  report_made other k report r by h = absurd h

  pub fingerprinted_made : (a : Action) (k : CheckingFingerprints) (report : FingerprintedReport) (r : KeyringValue) → ((s : KeyringValue) → ReportsPrints k.rows s.certificates → fingerprinted_rows_of report ≡ fingerprinted_report_of says_left s)
      → HasMade has a (making.Fingerprinted k) (parts_of r) → Text (fingerprinted_lines 0 (fingerprinted_rows_of report)) ≡ ring_made a r
  unfolding HasMade
  fingerprinted_made action.CheckFingerprints k report r by h = ap (λ (rows : List FingerprintedValue). Text (fingerprinted_lines 0 rows)) (by r (subst (λ (cs : List CertificateValue). ReportsPrints k.rows cs) (ring_certificates r) h))
  fingerprinted_made (action.Octets row top.Ring) k report r by h = absurd h
  fingerprinted_made (action.Explain row top.Ring) k report r by h = absurd h
  fingerprinted_made (action.Octets row top.Literal) k report r by h = absurd h
  fingerprinted_made (action.Explain row top.Literal) k report r by h = absurd h
  fingerprinted_made (action.Split out None) k report r by h = absurd h
  fingerprinted_made (action.Split out (Some n)) k report r by h = absurd h
  fingerprinted_made (action.Join out false) k report r by h = absurd h
  fingerprinted_made (action.Join out true) k report r by h = absurd h
  fingerprinted_made other k report r by h = absurd h

  pub placed_made : (a : Action) (k : CheckingPlaces) (report : Report) (places : List RowPlace) (r : KeyringValue) → ((s : KeyringValue) → Reports k.checking.rows s.certificates → report_rows report ≡ report_of says_left s)
      → ((s : KeyringValue) → HasPlaces k.places (parts_of s) → places ≡ places_of s) → HasMade has a (making.Placed k) (parts_of r) → Text (placed_lines 0 (report_rows report) places) ≡ ring_made a r
  unfolding HasMade
  placed_made action.CheckPlaces k report places r rows at h =
      ap (λ (l : List RowValue). Text (placed_lines 0 l places)) (rows r (subst (λ (cs : List CertificateValue). Reports k.checking.rows cs) (ring_certificates r) h.0))
      ∙ ap (λ (l : List RowPlace). Text (placed_lines 0 (report_of says_left r) l)) (at r h.1)
  placed_made (action.Octets row top.Ring) k report places r rows at h = absurd h
  placed_made (action.Explain row top.Ring) k report places r rows at h = absurd h
  placed_made (action.Octets row top.Literal) k report places r rows at h = absurd h
  placed_made (action.Explain row top.Literal) k report places r rows at h = absurd h
  placed_made (action.Split out None) k report places r rows at h = absurd h
  placed_made (action.Split out (Some n)) k report places r rows at h = absurd h
  placed_made (action.Join out false) k report places r rows at h = absurd h
  placed_made (action.Join out true) k report places r rows at h = absurd h
  placed_made other k report places r rows at h = absurd h

  -- the octets that all signatures hash
  pub octets_made : (a : Action) (k : AllOctets S) (r : KeyringValue) → HasMade has a (making.AllOctets k) (parts_of r) → Drafts a k.draft r
  unfolding HasMade
  octets_made action.OctetsAll k r h = (octets_rows (asked_of r), subst (λ (cs : List CertificateValue). has k.draft (octets_rows (asked_among cs))) (ring_certificates r) h.text, refl)
  octets_made (action.Octets row top.Ring) k r h = absurd h
  octets_made (action.Explain row top.Ring) k r h = absurd h
  octets_made (action.Octets row top.Literal) k r h = absurd h
  octets_made (action.Explain row top.Literal) k r h = absurd h
  octets_made (action.Split out None) k r h = absurd h
  octets_made (action.Split out (Some n)) k r h = absurd h
  octets_made (action.Join out false) k r h = absurd h
  octets_made (action.Join out true) k r h = absurd h
  octets_made other k r h = absurd h

  -- the keyring, merged
  merged_made : (a : Action) (k : KeyringValue) (r : KeyringValue) → HasMade has a (making.Ring k) (parts_of r) → Text (packets_text (out_of a) (flat (merged_of k))) ≡ ring_made a r
  unfolding HasMade
  merged_made (action.Join out true) k r h = ap (λ (s : KeyringValue). Text (packets_text out (flat (merged_of s)))) (same_parts k r h)
  merged_made (action.Join out false) k r h = absurd h
  merged_made (action.Octets row top.Ring) k r h = absurd h
  merged_made (action.Explain row top.Ring) k r h = absurd h
  merged_made (action.Octets row top.Literal) k r h = absurd h
  merged_made (action.Explain row top.Literal) k r h = absurd h
  merged_made (action.Split out None) k r h = absurd h
  merged_made (action.Split out (Some n)) k r h = absurd h
  merged_made other k r h = absurd h

  pub merged_so : (a : Action) (k : KeyringValue) (out : Out) (r : KeyringValue) → out ≡ out_of a → HasMade has a (making.Ring k) (parts_of r) → Text (packets_text out (flat (merged_of k))) ≡ ring_made a r
  merged_so a k out r same h = rw same (merged_made a k r h)

  -- a draft is written, whose text is what an action makes
  pub drafted : (Ends : Made → Type 0) (a : Action) (draft given : Draft S) (out : Out) (r : KeyringValue) → given ≡ draft → out ≡ out_of a → ((text : List ℕ) → has given text → Ends (Text (octets_text out text))) → Drafts a draft r → Ends (ring_made a r)
  drafted Ends a draft given out r same is ends (text, h, made) = subst Ends made (subst (λ (o : Out). Ends (Text (octets_text o text))) is (ends text (subst (λ (d : Draft S). has d text) (sym same) h)))

  -- the same, if what its text is made of was found
  pub found_so : (Ends : Made → Type 0) (a : Action) (found is : Option ℕ) (draft given : Draft S) (r : KeyringValue) → is ≡ found → given ≡ draft → ((text : List ℕ) → has given text → Ends (found_made is text)) → Finds a found draft r → Ends (ring_made a r)
  found_so Ends a found is draft given r same alike ends (text, h, made) = subst Ends made (subst (λ (b : Option ℕ). Ends (found_made b text)) same (ends text (subst (λ (d : Draft S). has d text) (sym alike) h)))

-- a run ends as its writing does, which is of what an action makes
pub ends_so : {R : Type 0} (Ends : R → Made → Type 0) (result end : R) (given made : Made) → result ≡ end → given ≡ made → Ends end given → Ends result made
ends_so {R} Ends result end given made same is h = subst (λ (x : R). Ends x made) (sym same) (subst (Ends end) is h)
