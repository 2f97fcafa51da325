-- What the last item of a list is given.
use Rattle.std.proofs.Common.{◌≡◌, ℕ, zero, suc, ◌+◌, List, [], ◌∷◌, ◌++◌, length, get_or, set, sym, ap, ◌∙◌, append_assoc, append-nil, arith}
use Rattle.std.specs.List.{flat_map}
use Rattle.opgp_frame.specs.Packet.{PacketValue}
use Rattle.opgp_keyring.specs.Keyring.{ComponentValue, component_packets}

-- where the last item gives more behind what it gave, so does the list
pub more_last : {X Y : Type 0} (f : X → List Y) (cs : List X) (i : ℕ) (c d : X) (more : List Y) → i + 1 ≡ length cs → c ≡ get_or cs i c → f d ≡ f c ++ more
    → flat_map f (set cs i d) ≡ flat_map f cs ++ more
more_last f [] i c d more last at grown = absurd (omega arith)
more_last {X} {Y} f (x ∷ []) zero c d more last at grown =
    append-nil (f d) ∙ grown ∙ ap (λ (k : X). f k ++ more) at ∙ ap (λ (l : List Y). l ++ more) (sym (append-nil (f x)))
more_last f (x ∷ []) (suc i) c d more last at grown = absurd (omega arith)
more_last f (x ∷ y ∷ cs) zero c d more last at grown = absurd (omega arith)
more_last {X} {Y} f (x ∷ y ∷ cs) (suc i) c d more last at grown =
    ap (λ (l : List Y). f x ++ l) (more_last f (y ∷ cs) i c d more (omega arith) at grown)
    ∙ sym (append_assoc (f x) (flat_map f (y ∷ cs)) more)

-- a packet that hangs on the last component
pub hung_last : (cs : List ComponentValue) (i : ℕ) (c d : ComponentValue) (p : PacketValue) → i + 1 ≡ length cs → c ≡ get_or cs i c → d.head ≡ c.head → d.hangs ≡ c.hangs ++ p ∷ []
    → flat_map component_packets (set cs i d) ≡ flat_map component_packets cs ++ p ∷ []
hung_last cs i c d p last at head hangs =
    more_last component_packets cs i c d (p ∷ []) last at (ap (λ (h : PacketValue). h ∷ d.hangs) head ∙ ap (λ (l : List PacketValue). c.head ∷ l) hangs)
