use Rattle.std.proofs.Common.{◌≡◌, List, ℕ, ◌++◌, codes, append_assoc, refl, sym}
use Rattle.hex.specs.Hex.{encode_upper}
use Rattle.opgp_report.specs.IssuerName.{name_value}
use Rattle.opgp_io.proofs.Extended.{extends_stop, extends_then}
use Rattle.opgp_state.specs.Date.{date_words_or_none}
use Rattle.opgp_stack.specs.Listing.{typed_start}
use Rattle.opgp_stack.specs.ValuedListing.{created_words, issuer_words}
use Rattle.opgp_stack.proofs.valued_listing.add_typed_values.Goals as goal

-- what follows the word `left`
left_before : (start xs : List ℕ) → start ++ (codes " left " ++ xs) ≡ (start ++ codes " left ") ++ xs
left_before start xs = sym (append_assoc start (codes " left ") xs)

pub returns-in_err-add_typed : goal.returns-in_err-add_typed
returns-in_err-add_typed g c =
    let start : List ℕ = typed_start c.args.version c.args.kind c.args.algorithm c.args.hash in
    let rest : List ℕ = encode_upper c.args.left.now ++ (created_words c.args.created ++ (issuer_words (name_value c.args.issuer) ++ date_words_or_none c.args.created)) in
    extends_stop rest (left_before start rest) c.from_residual.ensures.0 c.in_err-add_typed.ensures

pub returns-in_err-add_hex : goal.returns-in_err-add_hex
returns-in_err-add_hex g c =
    let start : List ℕ = typed_start c.args.version c.args.kind c.args.algorithm c.args.hash in
    let left : List ℕ = encode_upper c.args.left.now in
    let rest : List ℕ = created_words c.args.created ++ (issuer_words (name_value c.args.issuer) ++ date_words_or_none c.args.created) in
    extends_then {ys = left ++ rest} (left_before start (left ++ rest)) c.in_ok-add_typed.ensures
    (extends_stop {xs = left} rest refl c.from_residual-in_err-add_hex.ensures.0 c.in_err-add_hex.ensures)

pub returns-in_err-add_created : goal.returns-in_err-add_created
returns-in_err-add_created g c =
    let start : List ℕ = typed_start c.args.version c.args.kind c.args.algorithm c.args.hash in
    let left : List ℕ = encode_upper c.args.left.now in
    let created : List ℕ = created_words c.args.created in
    let rest : List ℕ = issuer_words (name_value c.args.issuer) ++ date_words_or_none c.args.created in
    extends_then {ys = left ++ (created ++ rest)} (left_before start (left ++ (created ++ rest))) c.in_ok-add_typed.ensures
    (extends_then {xs = left} {ys = created ++ rest} refl c.in_ok-add_hex.ensures
    (extends_stop {xs = created} rest refl c.from_residual-in_err-add_created.ensures.0 c.in_err-add_created.ensures))

pub returns-in_err-add_issuer : goal.returns-in_err-add_issuer
returns-in_err-add_issuer g c =
    let start : List ℕ = typed_start c.args.version c.args.kind c.args.algorithm c.args.hash in
    let left : List ℕ = encode_upper c.args.left.now in
    let created : List ℕ = created_words c.args.created in
    let issuer : List ℕ = issuer_words (name_value c.args.issuer) in
    let date : List ℕ = date_words_or_none c.args.created in
    extends_then {ys = left ++ (created ++ (issuer ++ date))} (left_before start (left ++ (created ++ (issuer ++ date)))) c.in_ok-add_typed.ensures
    (extends_then {xs = left} {ys = created ++ (issuer ++ date)} refl c.in_ok-add_hex.ensures
    (extends_then {xs = created} {ys = issuer ++ date} refl c.in_ok-add_created.ensures
    (extends_stop {xs = issuer} date refl c.from_residual-in_err-add_issuer.ensures.0 c.in_err-add_issuer.ensures)))

pub returns : goal.returns
returns g c =
    let start : List ℕ = typed_start c.args.version c.args.kind c.args.algorithm c.args.hash in
    let left : List ℕ = encode_upper c.args.left.now in
    let created : List ℕ = created_words c.args.created in
    let issuer : List ℕ = issuer_words (name_value c.args.issuer) in
    let date : List ℕ = date_words_or_none c.args.created in
    extends_then {ys = left ++ (created ++ (issuer ++ date))} (left_before start (left ++ (created ++ (issuer ++ date)))) c.in_ok-add_typed.ensures
    (extends_then {xs = left} {ys = created ++ (issuer ++ date)} refl c.in_ok-add_hex.ensures
    (extends_then {xs = created} {ys = issuer ++ date} refl c.in_ok-add_created.ensures
    (extends_then {xs = issuer} {ys = date} refl c.in_ok-add_issuer.ensures c.add_date_or_none.ensures)))
