use Rattle.std.proofs.Common.{List, append-nil, inl, inr, refl, subst}
use Rattle.opgp_keyring.specs.Composed.{PartValue}
use Rattle.opgp_handles.specs.Readings.{IsReading}
use Rattle.opgp_handles.proofs.reading.take_part.Goals as goal

-- no part was taken, and none waits
pub returns-in-None : goal.returns-in-None
returns-in-None g c = record {
  done = λ e. absurd cc;
  stays = λ e. c.in-None.ensures.stays;
  none = λ e. (
    c.in-None.ensures.none refl,
    subst (λ (ps : List PartValue). IsReading (record g.so_far { taken = ps }) c.next.new.reading) (append-nil g.so_far.taken) c.in-None.ensures.used,
  );
  lost = λ e. absurd cc;
  before = λ e. absurd (c.in_default.not-Lost e);
  empty = λ e. inl refl;
  kept = λ e. refl;
  status = inr (inr refl);
}
