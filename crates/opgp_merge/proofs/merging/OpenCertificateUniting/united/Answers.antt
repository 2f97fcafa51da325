use Rattle.std.proofs.Common.{◌≡◌, ap, ◌∙◌}
use Rattle.opgp_merge.specs.Merged.{united_components}
use Rattle.opgp_merge.specs.Slots.{once_certificate}
use Rattle.opgp_merge.proofs.Uniting.{components_united}
use Rattle.opgp_merge.proofs.merging.OpenCertificateUniting.united.Goals as goal

pub returns : goal.returns
returns c =
    let own = c.self.inside in
    let components : c.in_ok-components.components.items ≡ united_components own.components.items = c.in_ok-components.ensures ∙ components_united own.components.items in
    (λ i. record { primary = own.primary; hangs = c.in_ok-hangs.ensures i; components = components i }) ∙ ap once_certificate c.self.view_is
