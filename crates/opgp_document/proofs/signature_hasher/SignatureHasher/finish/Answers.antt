use Rattle.std.proofs.Common.{◌==◌, refl, ◌∙◌}
use Rattle.sha1.specs.Sha1.{sha1}
use Rattle.sha2.specs.Sha256.{sha224, sha256}
use Rattle.sha2.specs.Sha512.{sha384, sha512}
use Rattle.opgp_hash.specs.declared.digests.Digest.TheVariants as digest
use Rattle.opgp_document.specs.declared.signature_hasher.AlgorithmHasher.TheVariants as running
use Rattle.opgp_document.proofs.Closing.{found, runs_so, text_wanted}
use Rattle.opgp_document.proofs.signature_hasher.SignatureHasher.finish.Goals as goal

pub returns-in-Some-clause-some : goal.returns-in-Some-clause-some
returns-in-Some-clause-some c = λ s document over.
    let r = runs_so c.args.self (running.Sha1 c.in-Sha1.hasher) s document c.in-Sha1.is over in
    let f = c.in-Some.ensures.some (s.kind == 1) s.salt document r.1 in
    found digest.Sha1 sha1 2 (λ m. refl) s c.as_slice-octets.result.now document f.0 c.in-Some.digest r.0 (c.as_slice-octets.ensures.value ∙ over.own) over.kind f.1 f.2

pub returns-in-Sha1-clause-none : goal.returns-in-Sha1-clause-none
returns-in-Sha1-clause-none c = λ s document over.
    let r = runs_so c.args.self (running.Sha1 c.in-Sha1.hasher) s document c.in-Sha1.is over in
    text_wanted s.kind document (c.in-None.ensures.none (s.kind == 1) s.salt document r.1)

pub returns-in-Some-finish-clause-some : goal.returns-in-Some-finish-clause-some
returns-in-Some-finish-clause-some c = λ s document over.
    let r = runs_so c.args.self (running.Sha224 c.in-Sha224.hasher) s document c.in-Sha224.is over in
    let f = c.in-Some-finish.ensures.some (s.kind == 1) s.salt document r.1 in
    found digest.Sha224 sha224 11 (λ m. refl) s c.as_slice-octets.result.now document f.0 c.in-Some-finish.digest r.0 (c.as_slice-octets.ensures.value ∙ over.own) over.kind f.1 f.2

pub returns-in-Sha224-clause-none : goal.returns-in-Sha224-clause-none
returns-in-Sha224-clause-none c = λ s document over.
    let r = runs_so c.args.self (running.Sha224 c.in-Sha224.hasher) s document c.in-Sha224.is over in
    text_wanted s.kind document (c.in-None-finish.ensures.none (s.kind == 1) s.salt document r.1)

pub returns-in-Some-finish-2-clause-some : goal.returns-in-Some-finish-2-clause-some
returns-in-Some-finish-2-clause-some c = λ s document over.
    let r = runs_so c.args.self (running.Sha256 c.in-Sha256.hasher) s document c.in-Sha256.is over in
    let f = c.in-Some-finish-2.ensures.some (s.kind == 1) s.salt document r.1 in
    found digest.Sha256 sha256 8 (λ m. refl) s c.as_slice-octets.result.now document f.0 c.in-Some-finish-2.digest r.0 (c.as_slice-octets.ensures.value ∙ over.own) over.kind f.1 f.2

pub returns-in-Sha256-clause-none : goal.returns-in-Sha256-clause-none
returns-in-Sha256-clause-none c = λ s document over.
    let r = runs_so c.args.self (running.Sha256 c.in-Sha256.hasher) s document c.in-Sha256.is over in
    text_wanted s.kind document (c.in-None-finish-2.ensures.none (s.kind == 1) s.salt document r.1)

pub returns-in-Some-finish-3-clause-some : goal.returns-in-Some-finish-3-clause-some
returns-in-Some-finish-3-clause-some c = λ s document over.
    let r = runs_so c.args.self (running.Sha384 c.in-Sha384.hasher) s document c.in-Sha384.is over in
    let f = c.in-Some-finish-3.ensures.some (s.kind == 1) s.salt document r.1 in
    found digest.Sha384 sha384 9 (λ m. refl) s c.as_slice-octets.result.now document f.0 c.in-Some-finish-3.digest r.0 (c.as_slice-octets.ensures.value ∙ over.own) over.kind f.1 f.2

pub returns-in-Sha384-clause-none : goal.returns-in-Sha384-clause-none
returns-in-Sha384-clause-none c = λ s document over.
    let r = runs_so c.args.self (running.Sha384 c.in-Sha384.hasher) s document c.in-Sha384.is over in
    text_wanted s.kind document (c.in-None-finish-3.ensures.none (s.kind == 1) s.salt document r.1)

pub returns-in-Some-finish-4-clause-some : goal.returns-in-Some-finish-4-clause-some
returns-in-Some-finish-4-clause-some c = λ s document over.
    let r = runs_so c.args.self (running.Sha512 c.in-Sha512.hasher) s document c.in-Sha512.is over in
    let f = c.in-Some-finish-4.ensures.some (s.kind == 1) s.salt document r.1 in
    found digest.Sha512 sha512 10 (λ m. refl) s c.as_slice-octets.result.now document f.0 c.in-Some-finish-4.digest r.0 (c.as_slice-octets.ensures.value ∙ over.own) over.kind f.1 f.2

pub returns-clause-none : goal.returns-clause-none
returns-clause-none c = λ s document over.
    let r = runs_so c.args.self (running.Sha512 c.in-Sha512.hasher) s document c.in-Sha512.is over in
    text_wanted s.kind document (c.in-None-finish-4.ensures.none (s.kind == 1) s.salt document r.1)
