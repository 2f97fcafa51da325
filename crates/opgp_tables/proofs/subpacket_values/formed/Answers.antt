use Rattle.std.proofs.Common.{◌∙◌, ap, sym, refl}
use Rattle.std.specs.Prelude.{Some}
use Rattle.opgp_packet.specs.SubFields.{fields_shown}
use Rattle.opgp_packet.specs.declared.sub_fields.SubFields.{SubFields}
use Rattle.opgp_tables.specs.SubpacketValues.{values_by}
use Rattle.opgp_tables.proofs.subpacket_values.formed.Goals as goal

pub returns-in-Number-clause-said : goal.returns-in-Number-clause-said
returns-in-Number-clause-said c = c.values.ensures ∙ sym (ap (λ (f : SubFields). values_by (Some (fields_shown f))) c.in-Number.is)

pub returns-in-Octet-clause-said : goal.returns-in-Octet-clause-said
returns-in-Octet-clause-said c = c.values-in-Octet.ensures ∙ sym (ap (λ (f : SubFields). values_by (Some (fields_shown f))) c.in-Octet.is)

pub returns-in-TwoOctets-clause-said : goal.returns-in-TwoOctets-clause-said
returns-in-TwoOctets-clause-said c = c.values-in-TwoOctets.ensures ∙ sym (ap (λ (f : SubFields). values_by (Some (fields_shown f))) c.in-TwoOctets.is)

pub returns-in-EndedText-clause-said : goal.returns-in-EndedText-clause-said
returns-in-EndedText-clause-said c = c.values-in-EndedText.ensures ∙ sym (ap (λ (f : SubFields). values_by (Some (fields_shown f))) c.in-EndedText.is)

pub returns-in-Octets-clause-said : goal.returns-in-Octets-clause-said
returns-in-Octets-clause-said c = c.values-in-Octets.ensures ∙ sym (ap (λ (f : SubFields). values_by (Some (fields_shown f))) c.in-Octets.is)

pub returns-in-Revoker-clause-said : goal.returns-in-Revoker-clause-said
returns-in-Revoker-clause-said c = c.values-in-Revoker.ensures ∙ sym (ap (λ (f : SubFields). values_by (Some (fields_shown f))) c.in-Revoker.is)

pub returns-in-KeyId-clause-said : goal.returns-in-KeyId-clause-said
returns-in-KeyId-clause-said c = c.values-in-KeyId.ensures ∙ sym (ap (λ (f : SubFields). values_by (Some (fields_shown f))) c.in-KeyId.is)

pub returns-in-Notation-clause-said : goal.returns-in-Notation-clause-said
returns-in-Notation-clause-said c = refl ∙ sym (ap (λ (f : SubFields). values_by (Some (fields_shown f))) c.in-Notation.is)

pub returns-in-CodeAndText-clause-said : goal.returns-in-CodeAndText-clause-said
returns-in-CodeAndText-clause-said c = c.values-in-CodeAndText.ensures ∙ sym (ap (λ (f : SubFields). values_by (Some (fields_shown f))) c.in-CodeAndText.is)

pub returns-in-Target-clause-said : goal.returns-in-Target-clause-said
returns-in-Target-clause-said c = c.values-in-Target.ensures ∙ sym (ap (λ (f : SubFields). values_by (Some (fields_shown f))) c.in-Target.is)

pub returns-in-Signature-clause-said : goal.returns-in-Signature-clause-said
returns-in-Signature-clause-said c = c.values-in-Signature.ensures ∙ sym (ap (λ (f : SubFields). values_by (Some (fields_shown f))) c.in-Signature.is)

pub returns-in-Fingerprint-clause-said : goal.returns-in-Fingerprint-clause-said
returns-in-Fingerprint-clause-said c = c.values-in-Fingerprint.ensures ∙ sym (ap (λ (f : SubFields). values_by (Some (fields_shown f))) c.in-Fingerprint.is)

pub returns-in-Pairs-clause-said : goal.returns-in-Pairs-clause-said
returns-in-Pairs-clause-said c = c.values-in-Pairs.ensures ∙ sym (ap (λ (f : SubFields). values_by (Some (fields_shown f))) c.in-Pairs.is)
