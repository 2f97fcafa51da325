-- What is shown of packets one by one is what is shown of their blocks.
use Rattle.std.proofs.Common.{◌≡◌, ◌∙◌, ℕ, Bool, true, false, List, [], ◌∷◌, ◌++◌, flat_map, refl, sym, ap, subst, Option, Result, Ok, Err, append-nil}
use Rattle.std.proofs.lemmas.List.Concat.{flat_map-append}
use Rattle.opgp_frame.specs.declared.packet.Placed.{Placed}
use Rattle.opgp_codec.specs.declared.read_error.ReadError.{ReadError}
use Rattle.opgp_codec.specs.declared.read_error.ReadError.TheVariants as read
use Rattle.opgp_codec.specs.IncomingPackets.{EndsAs, packets_of}
use Rattle.opgp_codec.specs.Packets.{BlockValue}
use Rattle.opgp_codec.specs.Pulled.{OfAll}
use Rattle.opgp_stack.specs.Faults.{run_fault_of}
use Rattle.opgp_stack.specs.PacketText.{lines_of_packet}
use Rattle.opgp_stack.specs.Running.{ReadsFor}
use Rattle.opgp_stack.specs.Showing.{lines_of}
use Rattle.opgp_stack.specs.Shown.{IsShownOf}
use Rattle.opgp_stack.specs.declared.packet_text.PacketText.{PacketText}
use Rattle.opgp_stack.specs.declared.run_fault.RunFault.{RunFault}
use Rattle.opgp_stack.specs.declared.task.Task.{Task}
use Rattle.opgp_stack.proofs.ReadFor.{Returns, all_came, ends_with}

-- a packet more
pub shown_push : (lines : Placed → List ℕ) (packets : List Placed) (p : Placed) → flat_map lines packets ++ lines p ≡ flat_map lines (packets ++ p ∷ [])
shown_push lines packets p = ap (λ (o : List ℕ). flat_map lines packets ++ o) (sym (append-nil (lines p))) ∙ sym (flat_map-append lines packets (p ∷ []))

-- those of blocks
lines_in : (lines : Placed → List ℕ) (blocks : List BlockValue) → flat_map lines (packets_of blocks) ≡ lines_of lines blocks
lines_in lines [] = refl
lines_in lines (b ∷ bs) = flat_map-append lines b.packets (packets_of bs) ∙ ap (λ (o : List ℕ). flat_map lines b.packets ++ o) (lines_in lines bs)

-- of what is lent to have the text
module _ {R : Type 0} (has : List ℕ → Type 0) (text : PacketText) (task : Task) (left : R → Option (List ℕ)) (failed : R → Bool) (old new : R) (sound : failed new ≡ false) (packets : List Placed) where
  pub shown_all : EndsAs task.mode task.limits (left old) (left new) packets (Ok tt) → has (flat_map (lines_of_packet text) packets) → OfAll left failed old new task.limits (λ octets. IsShownOf {A = Unit} (λ done. has) text task octets (Ok tt))
  shown_all ended h = all_came left failed old new task.limits _ _ (λ octets k. (k.0, k.1, subst has (lines_in (lines_of_packet text) k.0) (subst (λ (ps : List Placed). has (flat_map (lines_of_packet text) ps)) (sym k.2) h))) sound ended

  none_shown : (e : ReadError) → EndsAs task.mode task.limits (left old) (left new) packets (Err e)
      → ReadsFor (λ answer. OfAll left failed old new task.limits (λ octets. IsShownOf {A = Unit} (λ done. has) text task octets answer)) (failed new ≡ true) (failed new ≡ false) (Err (run_fault_of e))
  none_shown (read.Refused fault) h = all_came left failed old new task.limits _ _ (λ octets k. k) sound h
  none_shown read.Read h = absurd h
  none_shown read.Memory h = sound

  pub unshown : (result : Result Unit RunFault) (e : ReadError) → Returns result (run_fault_of e) → EndsAs task.mode task.limits (left old) (left new) packets (Err e)
      → ReadsFor (λ answer. OfAll left failed old new task.limits (λ octets. IsShownOf {A = Unit} (λ done. has) text task octets answer)) (failed new ≡ true) (failed new ≡ false) result
  unshown result e err h = ends_with (λ answer. OfAll left failed old new task.limits (λ octets. IsShownOf {A = Unit} (λ done. has) text task octets answer)) (failed new ≡ true) (failed new ≡ false) result (run_fault_of e) err (none_shown e h)
