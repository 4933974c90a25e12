-- `text::digits::capital` meets its contract: the table holds the rule. Assumes nothing.
use Rattle.text.proofs.digits.capital.Goals as goal

pub returns : goal.returns
returns c = c.capital_table.ensures.rule c.args.number c.requires
