use Rattle.std.proofs.Common.{ℕ, sym, subst}
use Rattle.opgp_octets.specs.declared.limits.Limits.{Limits}
use Rattle.opgp_octets.specs.Limits.{malformed_of}
use Rattle.opgp_keyring.specs.Bodies.{HasNoFault}
use Rattle.opgp_keyring.specs.Composition.{of_packet, packets_in}
use Rattle.opgp_keyring.specs.Sorted.{IsSorted}
use Rattle.opgp_keyring.proofs.Feeding.{stray_fault}
use Rattle.opgp_keyring.proofs.States.{behind}
use Rattle.opgp_keyring.proofs.Stepping.{strayed}
use Rattle.opgp_keyring.proofs.HandedOut.{fed_of, standing_of}
use Rattle.opgp_frame.specs.View.{viewed_packet}
use Rattle.opgp_keyring.proofs.composer.Composer.add.Goals as goal

pub returns-then-not-is_open-clause-fed : goal.returns-then-not-is_open-clause-fed
returns-then-not-is_open-clause-fed c limits given taken f =
    fed_of (record { limits_kept = f.limits_kept; state = behind limits c.args.self.now.state given _ (of_packet (record { packet = (viewed_packet c.args.packet); block = c.args.block; pos = c.args.pos })) (standing_of f).state (subst (λ (l : Limits). HasNoFault (malformed_of l) (viewed_packet c.args.packet)) f.limits_kept c.requires.sound) (sym c.if-not-is_open.ensures) })

pub returns-in-Stray-clause-fed : goal.returns-in-Stray-clause-fed
returns-in-Stray-clause-fed c limits given taken f =
    c.refuse.ensures.fed limits given taken (of_packet (record { packet = (viewed_packet c.args.packet); block = c.args.block; pos = c.args.pos })) f (subst (λ (l : Limits). HasNoFault (malformed_of l) (viewed_packet c.args.packet)) f.limits_kept c.requires.sound)
    (λ _. stray_fault limits (packets_in given) (record { packet = (viewed_packet c.args.packet); block = c.args.block; pos = c.args.pos }) (strayed c.sort.result (viewed_packet c.args.packet).kind c.in-Stray.is (subst (λ (k : ℕ). IsSorted c.sort.result k) c.kind.ensures.value c.sort.ensures)))
