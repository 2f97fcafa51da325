use Rattle.std.proofs.Common.{sym, subst}
use Rattle.opgp_octets.specs.declared.limits.Limits.{Limits}
use Rattle.opgp_codec.specs.Accepts.{wanted_by}
use Rattle.opgp_codec.specs.Items.{IsRest}
use Rattle.opgp_codec.specs.Reading.{AnswerOf, is_binary}
use Rattle.opgp_codec.specs.Text.{IsEnd}
use Rattle.opgp_codec.proofs.items.Items.finish.Goals as goal

pub conclude-requires : goal.conclude-requires
conclude-requires c =
    let r = c.requires.fed in
    (r.0, r.1, r.3, r.4, subst (λ (l : Limits). IsEnd r.0 (is_binary r.1 r.3) l c.end_front.new.framer r.3 r.4 c.in_ok-ended.ended) (sym r.5.limits_kept) (c.in_ok-ended.ensures r.0 r.1 r.2 r.3 r.4 r.5.passed))

pub returns : goal.returns
returns c accepts mode limits input items f =
    let end = c.in_ok-ended.ensures accepts mode limits input items f.passed in
    subst (λ (l : Limits). AnswerOf (wanted_by accepts) (IsRest items) mode l input c.conclude.result) f.limits_kept
    (c.conclude.ensures accepts mode input items f.count (subst (λ (l : Limits). IsEnd accepts (is_binary mode input) l c.end_front.new.framer input items c.in_ok-ended.ended) (sym f.limits_kept) end))
