use Rattle.std.proofs.Common.{◌≡◌, refl, sym}
use Rattle.opgp_keyring.specs.Member.{member_packet}
use Rattle.opgp_keyring.specs.declared.content.Content.{Content}
use Rattle.opgp_keyring.specs.declared.content.Content.TheVariants as content
use Rattle.opgp_io.proofs.Extended.{extends_same}
use Rattle.opgp_stack.proofs.SoundLines.{IsOther, other_line, valued_view_line}
use Rattle.opgp_stack.proofs.valued_listing.add_valued_line.Goals as goal

pub returns-in-Signature : goal.returns-in-Signature
returns-in-Signature g c = extends_same (valued_view_line (member_packet c.args.packet) c.in-Signature.signature (sym c.in-Signature.ensures.kind) (sym c.in-Signature.ensures.octets)) c.add_valued_signature.ensures

pub returns-in_default : goal.returns-in_default
returns-in_default g c =
    let e = c.content-content.ensures in
    let p = member_packet c.args.packet in
    let other : IsOther c.content-content.result = elim c.content-content.result as (λ (k : Content). c.content-content.result ≡ k → IsOther k) [
      | content.Primary key ↦ λ is. c.in_default.not-Primary key is
      | content.Subkey key ↦ λ is. c.in_default.not-Subkey key is
      | content.UserId id ↦ λ is. tt
      | content.Attribute attribute ↦ λ is. tt
      | content.Signature s ↦ λ is. c.in_default.not-Signature s is
      | content.Malformed body ↦ λ is. tt
      | content.Filler kind body ↦ λ is. tt
    ] refl in
    extends_same (other_line p c.content-content.result (sym e.kind) (sym e.octets) e.kept other) (c.add_content.ensures p (sym e.kind) (sym e.octets))
