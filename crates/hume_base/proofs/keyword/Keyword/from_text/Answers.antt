use Rattle.hume_base.proofs.KeywordTexts.{keyword_by_first, keyword_exact}
use Rattle.hume_base.proofs.keyword.Keyword.from_text.Goals as goal

pub returns-in-len1-up-clause-found : goal.returns-in-len1-up-clause-found
returns-in-len1-up-clause-found c =
    keyword_by_first c.args.text.now c.in-len1-up.len_at_least c.starting_with.result.now c.find_among.result c.starting_with.ensures c.find_among.ensures

pub returns-in-len1-up-clause-exact : goal.returns-in-len1-up-clause-exact
returns-in-len1-up-clause-exact c = keyword_exact c.args.text.now c.find_among.result
    (keyword_by_first c.args.text.now c.in-len1-up.len_at_least c.starting_with.result.now c.find_among.result c.starting_with.ensures c.find_among.ensures)
