use Rattle.std.proofs.Common.{rules, ◌≡◌, ◌∙◌, ℕ, ◌+◌, List, ◌++◌, length, sym, ap, subst, append_assoc, refl, Err}
use Rattle.opgp_hash.specs.CertificateHasher.{hasher_subject}
use Rattle.opgp_hash.specs.SubjectValue.{SubjectValue}
use Rattle.opgp_packet.specs.Subs.{subs_to_come}
use Rattle.opgp_report.specs.declared.place.Place.{Place}
use Rattle.opgp_report.specs.Standing.{Standing, by_number, held_bodies, nested_standing}
use Rattle.opgp_report.specs.Visitor.{Shown}
use Rattle.opgp_report.proofs.Numbered.{by_number_append}
use Rattle.opgp_report.proofs.walk.visit_areas.Goals as goal

-- the second area is about an equal subject, and numbered behind the first
areas : (place : Place) (s t : SubjectValue) (xs ys : List (List ℕ)) (n : ℕ) (more : List Standing) → t ≡ s → n ≡ 0 + length xs
    → by_number (nested_standing place s) 0 xs ++ (by_number (nested_standing place t) n ys ++ more) ≡ by_number (nested_standing place s) 0 (xs ++ ys) ++ more
areas place s t xs ys n more e f = sym
    (ap (λ (l : List Standing). l ++ more) (by_number_append (nested_standing place s) 0 xs ys)
    ∙ append_assoc (by_number (nested_standing place s) 0 xs) (by_number (nested_standing place s) (0 + length xs) ys) more
    ∙ ap (λ (m : ℕ). by_number (nested_standing place s) 0 xs ++ (by_number (nested_standing place s) m ys ++ more)) (sym f)
    ∙ ap (λ (u : SubjectValue). by_number (nested_standing place s) 0 xs ++ (by_number (nested_standing place u) n ys ++ more)) (sym e))

pub returns-in_err-number-clause-shown : goal.returns-in_err-number-clause-shown
returns-in_err-number-clause-shown g c =
    let make = nested_standing c.args.place (hasher_subject c.args.hasher.now) in
    let xs = held_bodies (subs_to_come c.args.hashed) in
    let ys = held_bodies (subs_to_come c.args.unhashed) in
    let is : c.from_residual.result ≡ Err c.in_err-number.field-0.0 = search rules in
    subst (λ r. Shown g.V.Visitor.becomes c.args.visitor.now (by_number make 0 (xs ++ ys)) r c.visit_area.new.visitor) (sym is) (λ more.
    subst (λ (l : List Standing). g.V.Visitor.becomes c.args.visitor.now l (Err c.in_err-number.field-0.0))
    (areas c.args.place (hasher_subject c.args.hasher.now) (hasher_subject c.visit_area.new.hasher) xs ys (0 + length xs) more c.visit_area.ensures.subject refl)
    (c.in_err-number.ensures.shown (by_number (nested_standing c.args.place (hasher_subject c.visit_area.new.hasher)) (0 + length xs) ys ++ more)))

pub returns-in_err-visit_area-clause-shown : goal.returns-in_err-visit_area-clause-shown
returns-in_err-visit_area-clause-shown g c =
    let make = nested_standing c.args.place (hasher_subject c.args.hasher.now) in
    let xs = held_bodies (subs_to_come c.args.hashed) in
    let ys = held_bodies (subs_to_come c.args.unhashed) in
    let is : c.from_residual-in_err-visit_area.result ≡ Err c.in_err-visit_area.field-0.0 = search rules in
    subst (λ r. Shown g.V.Visitor.becomes c.args.visitor.now (by_number make 0 (xs ++ ys)) r c.visit_area-2.new.visitor) (sym is) (λ more.
    subst (λ (l : List Standing). g.V.Visitor.becomes c.args.visitor.now l (Err c.in_err-visit_area.field-0.0))
    (areas c.args.place (hasher_subject c.args.hasher.now) (hasher_subject c.visit_area.new.hasher) xs ys c.in_ok-number.number more c.visit_area.ensures.subject c.in_ok-number.ensures.number)
    (c.in_ok-number.ensures.shown (by_number (nested_standing c.args.place (hasher_subject c.visit_area.new.hasher)) c.in_ok-number.number ys ++ more) (Err c.in_err-visit_area.field-0.0)
    (c.in_err-visit_area.ensures.shown more)))

pub returns-clause-shown : goal.returns-clause-shown
returns-clause-shown g c more end h =
    let xs = held_bodies (subs_to_come c.args.hashed) in
    let ys = held_bodies (subs_to_come c.args.unhashed) in
    subst (λ (l : List Standing). g.V.Visitor.becomes c.args.visitor.now l end)
    (areas c.args.place (hasher_subject c.args.hasher.now) (hasher_subject c.visit_area.new.hasher) xs ys c.in_ok-number.number more c.visit_area.ensures.subject c.in_ok-number.ensures.number)
    (c.in_ok-number.ensures.shown (by_number (nested_standing c.args.place (hasher_subject c.visit_area.new.hasher)) c.in_ok-number.number ys ++ more) end
    (c.in_ok-visit_area.ensures.shown more end h))
