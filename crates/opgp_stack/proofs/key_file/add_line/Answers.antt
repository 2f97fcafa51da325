use Rattle.std.proofs.Common.{◌≡◌, false, refl, sym, true, ◌∙◌}
use Rattle.std.proofs.lemmas.Str.Ascii.{trim_ascii_is}
use Rattle.opgp_stack.specs.KeyFile.{is_comment, trimmed}
use Rattle.opgp_stack.proofs.KeyFiles.{comment_more, key_more, none_here}
use Rattle.opgp_stack.proofs.key_file.add_line.Goals as goal

pub returns-then-is_comment : goal.returns-then-is_comment
returns-then-is_comment c =
    let text : c.trim_ascii-text.result.now ≡ trimmed c.args.line.now = trim_ascii_is c.args.line.now c.trim_ascii-text.result.now _ refl c.trim_ascii-text.ensures.value in
    let comment : is_comment c.trim_ascii-text.result.now ≡ true = sym c.is_comment.ensures ∙ c.if-is_comment.true in
    record { named = λ lines h. comment_more lines c.args.line.now c.trim_ascii-text.result.now c.args.keys.now.items text comment h }

pub returns-in_ok-push-in-Some : goal.returns-in_ok-push-in-Some
returns-in_ok-push-in-Some c =
    let text : c.trim_ascii-text.result.now ≡ trimmed c.args.line.now = trim_ascii_is c.args.line.now c.trim_ascii-text.result.now _ refl c.trim_ascii-text.ensures.value in
    let named : is_comment c.trim_ascii-text.result.now ≡ false = sym c.is_comment.ensures ∙ c.if-is_comment.false in
    record { named = λ lines h. key_more lines c.args.line.now c.trim_ascii-text.result.now c.args.keys.now.items c.push.new.self.items c.in-Some.key text named c.in-Some.ensures.some c.in_ok-push-in-Some.ensures.items h }

pub returns-in-None : goal.returns-in-None
returns-in-None c =
    let text : c.trim_ascii-text.result.now ≡ trimmed c.args.line.now = trim_ascii_is c.args.line.now c.trim_ascii-text.result.now _ refl c.trim_ascii-text.ensures.value in
    let named : is_comment c.trim_ascii-text.result.now ≡ false = sym c.is_comment.ensures ∙ c.if-is_comment.false in
    record { named = none_here c.args.line.now c.trim_ascii-text.result.now text named c.in-None.ensures.none }
