use Rattle.hume_front.proofs.Accepting.{too_long_told}
use Rattle.hume_front.proofs.acceptance.in_length.Goals as goal

pub returns-then-text-gt-MAX_SOURCE_BYTES-clause-error :
    goal.returns-then-text-gt-MAX_SOURCE_BYTES-clause-error
returns-then-text-gt-MAX_SOURCE_BYTES-clause-error c = too_long_told _ _ c.if-text-gt-MAX_SOURCE_BYTES.true c.refused.ensures
