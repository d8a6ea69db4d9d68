use Rattle.std.proofs.Common.{◌≡◌, ◌++◌, drop}
use Rattle.c_main.specs.Texts.{each_from}
use Rattle.c_main.specs.Show.{field}
use Rattle.c_main.proofs.show.fields.Given as goal

abbrev pub invariant-loop-place : goal.invariant-loop-place
invariant-loop-place l =
    l.text.items ++ each_from (field l.found l.word) l.place (drop l.place l.tys) ≡ each_from (field l.found l.word) 0 l.tys
