use Rattle.report_text.proofs.OneText.{text_items_say_one}
use Rattle.report_text.proofs.laws.text_items_say_one.Goals as goal

pub returns : goal.returns
returns c = text_items_say_one
