use Rattle.parse_readers.proofs.OneSpelling.{one_type, one_pattern, one_expression, one_program, one_placed}
use Rattle.parse_readers.proofs.laws.one_spelling.Goals as goal

pub returns-clause-types : goal.returns-clause-types
returns-clause-types c = one_type

pub returns-clause-patterns : goal.returns-clause-patterns
returns-clause-patterns c = one_pattern

pub returns-clause-expressions : goal.returns-clause-expressions
returns-clause-expressions c = one_expression

pub returns-clause-programs : goal.returns-clause-programs
returns-clause-programs c = one_program

pub returns-clause-tokens : goal.returns-clause-tokens
returns-clause-tokens c = one_placed
