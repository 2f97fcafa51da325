use Rattle.std.proofs.Common.{◌≡◌, ◌∙◌, sym, Bool, List, ℕ, [], ◌++◌, codes, ap, append_assoc, append-nil}
use Rattle.std.specs.Fmt.{decimal}
use Rattle.opgp_octets.specs.SubLen.{sub_len_amount}
use Rattle.opgp_packet.specs.Meaning.{Meaning}
use Rattle.opgp_io.proofs.Extended.{extends_same}
use Rattle.opgp_stack.specs.Showing.{bit_name, meaning_name}
use Rattle.opgp_stack.proofs.showing.add_subpacket.Goals as goal

-- words in a line, some of which are made of three
grouped : (p area q kind r bit s amount t meaning u : List ℕ)
    → (p ++ area ++ q) ++ (kind ++ ((r ++ bit ++ s) ++ (amount ++ ((t ++ meaning) ++ (u ++ []))))) ≡ (p ++ area ++ q ++ kind ++ r ++ bit ++ s ++ amount ++ t ++ meaning) ++ u
grouped p area q kind r bit s amount t meaning u = simp (append_assoc, append-nil)

words : (a a' k k' b b' n n' m m' u : List ℕ) → a ≡ a' → k ≡ k' → b ≡ b' → n ≡ n' → m ≡ m' → a ++ (k ++ (b ++ (n ++ (m ++ (u ++ []))))) ≡ a' ++ (k' ++ (b' ++ (n' ++ (m' ++ (u ++ [])))))
words a a' k k' b b' n n' m m' u e1 e2 e3 e4 e5 = cc

pub returns : goal.returns
returns g c =
    let critical = c.critical_text.ensures ∙ ap (λ (v : Bool). codes " critical " ++ bit_name v ++ codes " length ") c.critical.ensures in
    let meaning = c.meaning_text.ensures ∙ ap (λ (v : Meaning). codes " " ++ meaning_name v) c.requires.meaning in
    let kind = ap decimal c.kind-kind.ensures in
    let amount = ap decimal (c.amount-amount.ensures ∙ ap sub_len_amount c.len.ensures) in
    extends_same
    (sym (words _ _ _ _ _ _ _ _ _ _ c.args.end.now c.area_text.ensures kind critical amount meaning
    ∙ grouped (codes "  ") _ (codes " kind ") _ (codes " critical ") _ (codes " length ") _ (codes " ") _ c.args.end.now))
    c.add_words.ensures
