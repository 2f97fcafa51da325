use Rattle.std.proofs.Common.{◌≡◌, ℕ, Bool, List, ◌++◌, ◌≤◌, length, drop, Result, Ok, Err, arith, refl}
use Rattle.std.specs.Prelude.{IfOk, IfErr, IsOk}
use Rattle.opgp_octets.specs.declared.fault.Reason.{Reason}
use Rattle.opgp_octets.specs.declared.mpi_view.MpiView.{MpiView}
use Rattle.opgp_octets.specs.Mpi.{MpiValue, MpiBegins, MpiRefused, mpi_octets, IsMpi, MayStand, mpi_at}
use Rattle.opgp_octets.specs.MpiView.{mpi_seen}
use Rattle.opgp_octets.specs.Octets.{IsOctets}
use Rattle.opgp_octets.specs.Reading.{Reads}
use Rattle.opgp_octets.proofs.Mpis.{mpi_found, mpi_only, mpi_refused}
use Rattle.opgp_octets.proofs.mpi_view.MpiView.read.Goals as goal

found : (strict : Bool) (o : List ℕ) (r : Result (MpiView × ℕ) Reason) → IsOctets o → Reads (λ x. (mpi_seen x.0, drop x.1 o)) r (mpi_at strict o) → IfOk r (λ x. x.1 ≤ length o)
    → IfOk r (λ x. MpiBegins strict o (mpi_seen x.0) x.1)
found strict o (Err e) each exact within = tt
found strict o (Ok x) each exact within = mpi_found strict o (mpi_seen x.0) x.1 each within exact

only : (strict : Bool) (o : List ℕ) (r : Result (MpiView × ℕ) Reason) → Reads (λ x. (mpi_seen x.0, drop x.1 o)) r (mpi_at strict o)
    → (m : MpiValue) (rest : List ℕ) → IsMpi m → MayStand strict m → o ≡ mpi_octets m ++ rest → IsOk r
only strict o (Ok x) exact m rest fits stands k = refl
only strict o (Err e) exact m rest fits stands k = absurd (mpi_only strict o m rest e fits stands k exact)

refused : (strict : Bool) (o : List ℕ) (r : Result (MpiView × ℕ) Reason) → IsOctets o → Reads (λ x. (mpi_seen x.0, drop x.1 o)) r (mpi_at strict o)
    → IfErr r (λ e. MpiRefused strict o e)
refused strict o (Ok x) each exact = tt
refused strict o (Err e) each exact = mpi_refused strict o e each exact

pub returns-clause-found : goal.returns-clause-found
returns-clause-found c = found c.args.strict c.args.o.now c.read_view.result (λ i. omega (arith, c.type_inv.o i)) c.read_view.ensures.exact c.read_view.ensures.within

pub returns-clause-only : goal.returns-clause-only
returns-clause-only c = only c.args.strict c.args.o.now c.read_view.result c.read_view.ensures.exact

pub returns-clause-refused : goal.returns-clause-refused
returns-clause-refused c = refused c.args.strict c.args.o.now c.read_view.result (λ i. omega (arith, c.type_inv.o i)) c.read_view.ensures.exact
