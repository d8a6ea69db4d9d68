use Rattle.hume_front.proofs.Accepting.{bad_token_told}
use Rattle.hume_front.proofs.refused.bad_token.Goals as goal

pub returns-in-BadChar : goal.returns-in-BadChar
returns-in-BadChar c = bad_token_told _ _ _ _ _ c.requires.short c.requires.error c.in-BadChar.is (λ e. cc) c.line_of.ensures c.refused.ensures

pub returns-in-BadNumber : goal.returns-in-BadNumber
returns-in-BadNumber c = bad_token_told _ _ _ _ _ c.requires.short c.requires.error c.in-BadNumber.is (λ e. cc) c.line_of-in-BadNumber.ensures c.refused-in-BadNumber.ensures

pub returns-in-LongName : goal.returns-in-LongName
returns-in-LongName c = bad_token_told _ _ _ _ _ c.requires.short c.requires.error c.in-LongName.is (λ e. cc) c.line_of-in-LongName.ensures c.refused-in-LongName.ensures

pub returns-in-TooManyTokens : goal.returns-in-TooManyTokens
returns-in-TooManyTokens c = bad_token_told _ _ _ _ _ c.requires.short c.requires.error c.in-TooManyTokens.is (λ e. cc) c.line_of-in-TooManyTokens.ensures c.refused-in-TooManyTokens.ensures
