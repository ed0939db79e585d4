use Rattle.draw_command.proofs.Ending.{no_text, overlong_told, refused_there, text_drawn}
use Rattle.draw_command.proofs.drawing.draw_ledger.Goals as goal

pub returns-clause-no_text : goal.returns-clause-no_text
returns-clause-no_text g c = no_text c.text_laws.ensures.no_text _ _ c.draw_input.result c.draw_input.ensures.ends

pub returns-clause-complete : goal.returns-clause-complete
returns-clause-complete g c = λ bytes config ledger told short text no_read no_write.
    text_drawn _ _ bytes told no_read c.text_laws.ensures.no_text (λ a b l m. c.text_laws.ensures.no_text_of_two a b l m bytes) config
    ledger short text no_write c.draw_input.result c.draw_input.ensures.ends

pub returns-clause-refused : goal.returns-clause-refused
returns-clause-refused g c = λ bytes line told short bad no_read.
    refused_there _ _ bytes told no_read c.text_laws.ensures.no_text (c.text_laws.ensures.one_line bytes) line short bad
    c.draw_input.result c.draw_input.ensures.ends

pub returns-clause-overlong : goal.returns-clause-overlong
returns-clause-overlong g c = λ bytes told long no_read.
    overlong_told _ _ bytes told no_read long c.draw_input.result c.draw_input.ensures.ends
