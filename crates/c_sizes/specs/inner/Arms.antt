-- The arms of a statement, with the frames of what stands in them.
use Rattle.std.specs.Prelude.{List, map}
use Rattle.c_tree.specs.declared.tree.CExp.{CExp}
use Rattle.c_tree.specs.declared.tree.CStm.{CStm}
use Rattle.c_sizes.specs.declared.frame.Frame.{Frame}
use Rattle.c_sizes.specs.Layout.{Types}
use Rattle.c_sizes.specs.Frames.{Functions, statement_frame}

abbrev pub framed_arm : Types → Functions → CExp × List CStm → CExp × List Frame
framed_arm types functions arm = (arm.0, map (statement_frame types functions) arm.1)
