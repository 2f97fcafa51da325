use Rattle.opgp_tool.proofs.OneTask.{one_request, one_task}
use Rattle.opgp_tool.proofs.laws.words_name_one_task.Goals as goal

pub returns : goal.returns
returns c = record { task = one_task; request = one_request }
