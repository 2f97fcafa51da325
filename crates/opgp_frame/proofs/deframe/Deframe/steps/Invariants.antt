use Rattle.std.proofs.Common.{length, take, ◌-◌, ◌+◌, ◌≡◌, ◌≤◌, [], Some, false}
use Rattle.opgp_octets.specs.declared.fault.Fault.{Fault}
use Rattle.opgp_frame.specs.Fed.{KeepsFed, is_spent, fault_of, is_ready, count_of, limits_of}
use Rattle.opgp_frame.proofs.deframe.Deframe.steps.Given as goal

-- the octets before `at` are taken
abbrev pub invariant-steps : goal.invariant-steps
invariant-steps l = record {
  within : l.at ≤ length l.piece;
  fed : KeepsFed l.fn.self l.self (take l.at l.piece) [];
  count : count_of l.self ≡ count_of l.fn.self + l.at;
  sound : is_spent l.self ≡ false;
  limits : limits_of l.self ≡ limits_of l.fn.self;
  faulty : (fault : Fault) → fault_of l.fn.self ≡ Some fault → fault_of l.self ≡ Some fault;
  free : (fault : Fault) → fault_of l.fn.self ≡ Some fault → is_ready l.self ≡ false;
  moves : l.at ≡ 0 → is_ready l.self ≡ false;
}

abbrev pub decreases-steps : goal.decreases-steps
decreases-steps l = length l.piece - l.at
