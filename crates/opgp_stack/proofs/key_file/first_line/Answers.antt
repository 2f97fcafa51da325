use Rattle.opgp_stack.proofs.KeyFiles.{cut_line, whole_line}
use Rattle.opgp_stack.proofs.key_file.first_line.Goals as goal

pub returns-then-end-octets-clause-lines : goal.returns-then-end-octets-clause-lines
returns-then-end-octets-clause-lines c = cut_line c.args.octets.now c.line_len-end.result c.line_len-end.ensures c.if-end-octets.true

pub returns-else-end-octets-clause-lines : goal.returns-else-end-octets-clause-lines
returns-else-end-octets-clause-lines c = whole_line c.args.octets.now c.line_len-end.result c.line_len-end.ensures c.if-end-octets.false
