use Rattle.opgp_handles.proofs.signed_texts.read_message.Goals as goal

-- the fault is that of the text within the limits
pub returns-in-Err-Refused-clause-refused : goal.returns-in-Err-Refused-clause-refused
returns-in-Err-Refused-clause-refused c = λ _.
    let all = rw c.in-Err-Refused.field-0-is at c.in-Err-Refused.ensures.reads in
    (c.in-Err-Refused.found, (c.in-Some.limits, c.in-Some.ensures.these, all), c.of.ensures)
