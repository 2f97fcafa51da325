use Rattle.std.proofs.Common.{◌≡◌, ◌++◌, codes, rules, Some}
use Rattle.opgp_packet.specs.SigView.{sig_view_value}
use Rattle.opgp_packet.specs.SignatureBody.{SignatureValue}
use Rattle.opgp_report.specs.IssuerName.{name_value}
use Rattle.opgp_report.specs.Left.{left_in}
use Rattle.opgp_report.specs.Signer.{by_id}
use Rattle.opgp_io.proofs.Extended.{extends_same}
use Rattle.opgp_stack.specs.Listing.{signature_text, typed_start}
use Rattle.opgp_report.specs.Named.{named_of}
use Rattle.opgp_stack.specs.ValuedListing.{created_of}
use Rattle.opgp_stack.proofs.GoingOn.{goes_on_with}
use Rattle.opgp_stack.proofs.valued_listing.add_valued_signature.Goals as goal

pub returns-in-Three : goal.returns-in-Three
returns-in-Three g c =
    let v : SignatureValue = sig_view_value c.args.signature in
    let left : left_in v ≡ Some c.left-left.result = search rules in
    let line : signature_text v ≡ typed_start 3 c.kind-kind.result c.algorithm-algorithm.result c.hash-hash.result ++ codes "\n" = search rules in
    let created : Some c.created.result ≡ created_of v = search rules in
    let name : by_id c.issuer.result ≡ named_of v = search rules in
    extends_same (goes_on_with v (signature_text v) (typed_start 3 c.kind-kind.result c.algorithm-algorithm.result c.hash-hash.result) c.left-left.result (Some c.created.result) (by_id c.issuer.result) left line created name) c.add_typed_values.ensures

pub returns-in-Four : goal.returns-in-Four
returns-in-Four g c =
    let v : SignatureValue = sig_view_value c.args.signature in
    let left : left_in v ≡ Some c.left-left-in-Four.result = search rules in
    let line : signature_text v ≡ typed_start 4 c.kind-kind-in-Four.result c.algorithm-algorithm-in-Four.result c.hash-hash-in-Four.result ++ codes "\n" = search rules in
    let created : c.first_created-created.result ≡ created_of v = search rules in
    let name : name_value c.issuer_named-issuer.result ≡ named_of v = search rules in
    extends_same (goes_on_with v (signature_text v) (typed_start 4 c.kind-kind-in-Four.result c.algorithm-algorithm-in-Four.result c.hash-hash-in-Four.result) c.left-left-in-Four.result (c.first_created-created.result) (name_value c.issuer_named-issuer.result) left line created name) c.add_typed_values-in-Four.ensures

pub returns-in-Six : goal.returns-in-Six
returns-in-Six g c =
    let v : SignatureValue = sig_view_value c.args.signature in
    let left : left_in v ≡ Some c.left-left-in-Six.result = search rules in
    let line : signature_text v ≡ typed_start 6 c.kind-kind-in-Six.result c.algorithm-algorithm-in-Six.result c.hash-hash-in-Six.result ++ codes "\n" = search rules in
    let created : c.first_created-created-in-Six.result ≡ created_of v = search rules in
    let name : name_value c.issuer_named-issuer-in-Six.result ≡ named_of v = search rules in
    extends_same (goes_on_with v (signature_text v) (typed_start 6 c.kind-kind-in-Six.result c.algorithm-algorithm-in-Six.result c.hash-hash-in-Six.result) c.left-left-in-Six.result (c.first_created-created-in-Six.result) (name_value c.issuer_named-issuer-in-Six.result) left line created name) c.add_typed_values-in-Six.ensures
