use Rattle.opgp_codec.proofs.laws.layers_are_one.Goals as goal

pub returns : goal.returns
returns c = record {
  armor_list = c.one_list.ensures;
  armor_fault = c.one_fault.ensures;
  armor_no_fault = c.no_fault.ensures;
  frame_list = c.one_list-2.ensures;
  frame_fault = c.one_fault-2.ensures;
  frame_no_fault = c.no_fault-2.ensures;
}
