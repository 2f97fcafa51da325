-- A text that is read from its beginning to its end.
use Rattle.std.proofs.Common.{◌≡◌, ℕ, ◌+◌, ◌-◌, ◌≤◌, false, List, [], ◌++◌, length, take, drop, sym, ap, ◌∙◌, arith, subst}
use Rattle.std.proofs.lemmas.List.{take_rest}
use Rattle.std.specs.List.{fold}
use Rattle.opgp_armor.specs.Rules.{LineRule}
use Rattle.opgp_armor.specs.declared.dearmoring.Building.{Building}
use Rattle.opgp_armor.specs.declared.reader.Dearmor.{Dearmor}
use Rattle.opgp_armor.specs.Events.{Event, Built, absorb, built, nothing_built}
use Rattle.opgp_armor.specs.Blocks.{built_of}
use Rattle.opgp_armor.specs.Fed.{Fed, KeepsFed, is_ready, has_ended, count_of, rule_of}
use Rattle.opgp_armor.proofs.Sound.{built_more}
use Rattle.opgp_armor.proofs.Feeding.{without_event, without_octet, take_parts, part_fits}

-- So much of the text was given, and what was taken has built this.
pub record Reads (rule : LineRule) (reader : Dearmor) (b : Building) (text : List ℕ) (at : ℕ) : Type 0 where
  pub within : at ≤ length text
  pub quiet : is_ready reader ≡ false
  pub going : has_ended reader ≡ false
  pub count : count_of reader ≡ at
  pub rule_is : rule_of reader ≡ rule
  pub taken : List Event
  pub fed : Fed reader (take at text) taken
  pub built_is : built taken ≡ built_of b

pub reads_none : (rule : LineRule) (reader : Dearmor) (b : Building) (text : List ℕ) → is_ready reader ≡ false → has_ended reader ≡ false → count_of reader ≡ 0 → rule_of reader ≡ rule → Fed reader [] []
    → built_of b ≡ nothing_built → Reads rule reader b text 0
unfolding built
reads_none rule reader b text quiet going count rule_is fed none = record {
  within = omega arith;
  quiet = quiet;
  going = going;
  count = count;
  rule_is = rule_is;
  taken = [];
  fed = fed;
  built_is = sym none;
}

-- one event more, or none
pub built_next : (b c : Built) (taken more : List Event) → built taken ≡ b → c ≡ fold absorb b more → built (taken ++ more) ≡ c
built_next b c taken more e f = built_more taken more ∙ ap (λ (v : Built). fold absorb v more) e ∙ sym f

given_more : (text : List ℕ) (at n : ℕ) → take at text ++ take n (take (length text - at) (drop at text)) ≡ take (at + n) text
given_more text at n = ap (λ (v : List ℕ). take at text ++ take n v) (take_rest text at) ∙ take_parts at n text

-- one piece more
pub reads_more : (rule : LineRule) (d m e : Dearmor) (b b1 : Building) (text : List ℕ) (at n : ℕ) (more : List Event) → Reads rule d b text at → n ≤ length (take (length text - at) (drop at text))
    → KeepsFed d m (take n (take (length text - at) (drop at text))) [] → KeepsFed m e [] more
    → is_ready e ≡ false → has_ended e ≡ false → count_of e ≡ count_of d + n → rule_of e ≡ rule_of d → built_of b1 ≡ fold absorb (built_of b) more
    → Reads rule e b1 text (at + n)
reads_more rule d m e b b1 text at n more r within pushed took quiet going count rule_is is = record {
  within = part_fits text at n r.within within;
  quiet = quiet;
  going = going;
  count = omega (arith, count, r.count);
  rule_is = rule_is ∙ r.rule_is;
  taken = r.taken ++ more;
  fed = subst (λ (v : List ℕ). Fed e v (r.taken ++ more)) (given_more text at n)
      (without_octet e _ (r.taken ++ more) (took _ r.taken (without_event m _ r.taken (pushed (take at text) r.taken r.fed))));
  built_is = built_next (built_of b) (built_of b1) r.taken more r.built_is is;
}
