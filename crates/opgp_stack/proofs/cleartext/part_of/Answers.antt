use Rattle.std.proofs.Common.{◌∙◌, ◌++◌, List, ℕ, ap}
use Rattle.std.specs.Global.{Vec}
use Rattle.opgp_cleartext.specs.Cleartext.{joined, joined_canonically}
use Rattle.opgp_cleartext.specs.View.{document_of, rest_of}
use Rattle.opgp_keyring.specs.DetachedSignatures.{detached_packets}
use Rattle.opgp_stack.specs.declared.cleartext.CleartextPart.TheVariants as part
use Rattle.opgp_stack.proofs.CleartextParts.{part_is}
use Rattle.opgp_stack.proofs.cleartext.part_of.Goals.{in-Document+in_ok-write_document-in-Document, in-Hashed+in_ok-write_hashed-in-Hashed, in-Signatures+in_ok-extend_from_slice-in-Signatures}
use Rattle.opgp_stack.proofs.cleartext.part_of.Goals as goal

abbrev items_of : Vec ℕ → List ℕ
items_of v = v.items

pub returns : goal.returns
returns c =
    let m = c.in_ok-message.message in
    let known = c.in_ok-message.ensures in
    let is = part_is c.args.limits.now c.args.text.now (document_of m, detached_packets c.in_ok-message._signatures) (rest_of m) known.reads known.lines c.args.part in
    elim c.match-part.branch [
      | in-Document+in_ok-write_document-in-Document w ↦
          is part.Document c.match-part.octets.items w.in-Document.is
          (ap items_of w.octets-is ∙ w.in_ok-write_document-in-Document.ensures.ok ∙ ap (λ (l : List ℕ). l ++ joined (document_of m)) c.new-octets.ensures.items)
      | in-Hashed+in_ok-write_hashed-in-Hashed w ↦
          is part.Hashed c.match-part.octets.items w.in-Hashed.is
          (ap items_of w.octets-is ∙ w.in_ok-write_hashed-in-Hashed.ensures.ok ∙ ap (λ (l : List ℕ). l ++ joined_canonically (document_of m)) c.new-octets.ensures.items)
      | in-Signatures+in_ok-extend_from_slice-in-Signatures w ↦
          is part.Signatures c.match-part.octets.items w.in-Signatures.is
          (ap items_of w.octets-is ∙ w.in_ok-extend_from_slice-in-Signatures.ensures.items ∙ ap (λ (l : List ℕ). l ++ w.signatures.result.now) c.new-octets.ensures.items
          ∙ w.signatures.ensures)
    ]
