-- The line of a key.
use Rattle.std.proofs.Common.{◌≡◌, ℕ, List, ap, Result, Ok}
use Rattle.opgp_octets.specs.declared.fault.BodyFault.{BodyFault}
use Rattle.opgp_packet.specs.FieldReading.{body_at}
use Rattle.opgp_packet.specs.Fields.{Field}
use Rattle.opgp_packet.specs.KeyBody.{key, key_fields, KeyValue}
use Rattle.opgp_stack.specs.Listing.{fields_of, key_fields_in, key_start, key_text, number_at}

pub key_start_is : (word o : List ℕ) (v : KeyValue) → body_at key o ≡ Ok (key_fields v) → key_start word o ≡ key_text word v.version v.created v.algorithm o
key_start_is word o v read =
    let f : Result (List Field) BodyFault → List ℕ = λ r. key_text word (number_at (fields_of r) 0) (number_at (fields_of r) 1) (number_at (fields_of r) 2) o in
    ap f read

-- the time of its creation
pub creation_is : (o : List ℕ) (v : KeyValue) → body_at key o ≡ Ok (key_fields v) → number_at (key_fields_in o) 1 ≡ v.created
creation_is o v read = ap (λ (r : Result (List Field) BodyFault). number_at (fields_of r) 1) read
