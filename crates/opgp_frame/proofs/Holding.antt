-- What the state of a reader says of what it holds.
use Rattle.std.proofs.Common.{◌≡◌, ℕ, ◌+◌, ◌<◌, ◌≤◌, Bool, true, false, ◌&&◌, cond, leb, ltb, eqb, List, Option, Some, None, is_some, refl, ap, subst, arith}
use Rattle.std.specs.Prelude.{is_none}
use Rattle.std.proofs.lemmas.Bool.{and_parts, and_from, ltb-true, lt-ltb, leb-true, le-leb, eqb-true}
use Rattle.opgp_octets.specs.declared.limits.Limits.{Limits}
use Rattle.opgp_octets.specs.Limits.{body_limit, pieces_limit}
use Rattle.opgp_octets.specs.declared.fault.Fault.{Fault}
use Rattle.opgp_octets.specs.declared.fault.Reason.{Reason}
use Rattle.opgp_frame.specs.declared.deframe.State.{State}
use Rattle.opgp_frame.specs.declared.deframe.State.TheVariants.{Between, InLength, InPiece, Faulty, Spent}
use Rattle.opgp_frame.specs.declared.length.Length.{Length}
use Rattle.opgp_frame.specs.declared.packet.Placed.{Placed}
use Rattle.opgp_frame.specs.Fed.{fault_of_state, is_spent_state}
use Rattle.opgp_frame.specs.Length.{is_partial}
use Rattle.opgp_frame.specs.PacketFault.{header_fault}
use Rattle.opgp_frame.specs.ReaderState.{within, state_fits, held_in, held_in_ready, held_in_state}

pub record IsWithin (limits : Limits) (exponents body : ℕ) : Type 0 where
  pub exponents' : exponents ≤ pieces_limit limits
  pub body' : body ≤ body_limit limits

pub within_parts : (limits : Limits) (exponents body : ℕ) → within limits exponents body ≡ true → IsWithin limits exponents body
within_parts limits exponents body e =
    let p = and_parts (leb exponents (pieces_limit limits)) (leb body (body_limit limits)) e in
    record { exponents' = leb-true exponents (pieces_limit limits) p.0; body' = leb-true body (body_limit limits) p.1 }

pub within_from : (limits : Limits) (exponents body : ℕ) → IsWithin limits exponents body → within limits exponents body ≡ true
within_from limits exponents body w = and_from _ _ (le-leb exponents (pieces_limit limits) w.exponents') (le-leb body (body_limit limits) w.body')

-- in a length header
pub record LengthFacts (limits : Limits) (header count exponents body : ℕ) : Type 0 where
  pub few : count < 5
  pub read : header_fault header ≡ None
  pub within' : IsWithin limits exponents body

none_is : (o : Option Reason) → is_none o ≡ true → o ≡ None
none_is None e = refl
none_is (Some r) e = absurd cc

pub length_facts : (limits : Limits) (header : ℕ) (seen : List ℕ) (count exponents body : ℕ) → state_fits limits (InLength header seen count) exponents body ≡ true → LengthFacts limits header count exponents body
length_facts limits header seen count exponents body e =
    let p = and_parts (ltb count 5 && is_none (header_fault header)) (within limits exponents body) e in
    let q = and_parts (ltb count 5) (is_none (header_fault header)) p.0 in
    record { few = ltb-true count 5 q.0; read = none_is (header_fault header) q.1; within' = within_parts limits exponents body p.1 }

pub length_fits : (limits : Limits) (header : ℕ) (seen : List ℕ) (count exponents body : ℕ) → LengthFacts limits header count exponents body → state_fits limits (InLength header seen count) exponents body ≡ true
length_fits limits header seen count exponents body f =
    and_from _ _ (and_from _ _ (lt-ltb count 5 f.few) (ap is_none f.read)) (within_from limits exponents body f.within')

-- in a piece
pub record PieceFacts (limits : Limits) (header : ℕ) (l : Length) (from until exponents body : ℕ) : Type 0 where
  pub read : header_fault header ≡ None
  pub order : from ≤ until
  pub open' : body < until
  pub within' : IsWithin limits exponents until
  pub room : is_partial l ≡ true → exponents + 1 ≤ pieces_limit limits

pub piece_facts : (limits : Limits) (header : ℕ) (l : Length) (from until exponents body : ℕ) → state_fits limits (InPiece header l from until) exponents body ≡ true → PieceFacts limits header l from until exponents body
piece_facts limits header l from until exponents body e =
    let read = is_none (header_fault header) in
    let p = and_parts (read && leb from until && ltb body until && within limits exponents until) (leb (cond (is_partial l) (exponents + 1) exponents) (pieces_limit limits)) e in
    let q = and_parts (read && leb from until && ltb body until) (within limits exponents until) p.0 in
    let r = and_parts (read && leb from until) (ltb body until) q.0 in
    let s = and_parts read (leb from until) r.0 in
    record {
      read = none_is (header_fault header) s.0;
      order = leb-true from until s.1;
      open' = ltb-true body until r.1;
      within' = within_parts limits exponents until q.1;
      room = λ some. subst (λ (b : Bool). cond b (exponents + 1) exponents ≤ pieces_limit limits) some (leb-true (cond (is_partial l) (exponents + 1) exponents) (pieces_limit limits) p.1);
    }

pub piece_fits : (limits : Limits) (header : ℕ) (l : Length) (from until exponents body : ℕ) → PieceFacts limits header l from until exponents body → state_fits limits (InPiece header l from until) exponents body ≡ true
piece_fits limits header l from until exponents body f =
    let few : cond (is_partial l) (exponents + 1) exponents ≤ pieces_limit limits =
    elim (is_partial l) as (λ (b : Bool). (b ≡ true → exponents + 1 ≤ pieces_limit limits) → cond b (exponents + 1) exponents ≤ pieces_limit limits) [ true ↦ λ h. h refl | false ↦ λ h. f.within'.exponents' ] f.room in
    and_from _ _ (and_from _ _ (and_from _ _ (and_from _ _ (ap is_none f.read) (le-leb from until f.order)) (lt-ltb body until f.open')) (within_from limits exponents until f.within')) (le-leb _ (pieces_limit limits) few)

-- nothing is ready
pub held_free : (ready : Option Placed) → is_some ready ≡ false → held_in_ready ready ≡ 0
held_free None e = refl
held_free (Some p) e = absurd cc

pub holds_length : (limits : Limits) (header : ℕ) (seen : List ℕ) (count exponents body : ℕ) (ready : Option Placed) → LengthFacts limits header count exponents body → is_some ready ≡ false → held_in (InLength header seen count) exponents body ready ≤ body_limit limits + pieces_limit limits + 16
holds_length limits header seen count exponents body ready f e = omega (arith, held_free ready e, f.few, f.within'.exponents', f.within'.body')

pub holds_piece : (limits : Limits) (header : ℕ) (l : Length) (from until exponents body : ℕ) (ready : Option Placed) → PieceFacts limits header l from until exponents body → is_some ready ≡ false → held_in (InPiece header l from until) exponents body ready ≤ body_limit limits + pieces_limit limits + 16
holds_piece limits header l from until exponents body ready f e = omega (arith, held_free ready e, f.open', f.within'.exponents', f.within'.body')

-- ---- after a fault or running out of memory

empty_held : (state : State) (exponents body : ℕ) (ready : Option Placed) → (eqb exponents 0 && eqb body 0) ≡ true → held_in_state state ≡ 0 → is_some ready ≡ false → held_in state exponents body ready ≡ 0
empty_held state exponents body ready e none free =
    let p = and_parts (eqb exponents 0) (eqb body 0) e in
    omega (arith, held_free ready free, none, eqb-true exponents 0 p.0, eqb-true body 0 p.1)

pub faulty_held : (limits : Limits) (state : State) (exponents body block pos : ℕ) (ready : Option Placed) (fault : Fault) → state_fits limits state exponents body ≡ true → fault_of_state state block pos ≡ Some fault → is_some ready ≡ false → held_in state exponents body ready ≡ 0
faulty_held limits Between exponents body block pos ready fault fits e free = absurd cc
faulty_held limits (InLength header seen count) exponents body block pos ready fault fits e free = absurd cc
faulty_held limits (InPiece header l from until) exponents body block pos ready fault fits e free = absurd cc
faulty_held limits (Faulty reason inner) exponents body block pos ready fault fits e free = empty_held (Faulty reason inner) exponents body ready fits refl free
faulty_held limits Spent exponents body block pos ready fault fits e free = absurd cc

pub spent_held : (limits : Limits) (state : State) (exponents body : ℕ) (ready : Option Placed) → state_fits limits state exponents body ≡ true → is_spent_state state ≡ true → is_some ready ≡ false → held_in state exponents body ready ≡ 0
spent_held limits Between exponents body ready fits e free = absurd cc
spent_held limits (InLength header seen count) exponents body ready fits e free = absurd cc
spent_held limits (InPiece header l from until) exponents body ready fits e free = absurd cc
spent_held limits (Faulty reason inner) exponents body ready fits e free = absurd cc
spent_held limits Spent exponents body ready fits e free = empty_held Spent exponents body ready fits refl free
