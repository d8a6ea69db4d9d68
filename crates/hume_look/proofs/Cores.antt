-- What is known of the core of a sound source, and of what a script makes of it.
use Rattle.std.proofs.Common.{◌≡◌, ℕ, ◌≤◌, List, length, Ok}
use Rattle.hume_base.specs.declared.limits.TheConstants.{MAX_NODES}
use Rattle.hume_model.specs.declared.core_tree.Core.{Core}
use Rattle.hume_model.specs.WellFormed.{HasSoundFrame}
use Rattle.box_calculus.specs.Scripts.{scripted}
use Rattle.box_calculus.proofs.KeptByLines.{still_formed}
use Rattle.hume_front.specs.declared.acceptance.Sound.{Sound}
use Rattle.hume_front.specs.Accepted.{IsSound}
use Rattle.hume_front.proofs.Sources.{sound_check, sound_formed}
use Rattle.hume_front.proofs.printable_lemmas.NamedConstructors.{have_names}
use Rattle.hume_front.proofs.printable_lemmas.Printable.{printable}
use Rattle.look_told.specs.Readable.{HasReadableLines}

module _ (text : List ℕ) (sound : Sound) (h : IsSound text sound) where
  pub few_nodes : length sound.core.nodes ≤ MAX_NODES
  few_nodes = (sound_formed text sound h).frame.limits.nodes

  pub readable : HasReadableLines sound.core
  readable =
      let formed = sound_formed text sound h in
      record {
        sizes = formed.frame.sizes;
        names = have_names text h.program.tokens sound.program sound.core h.program.read h.program.spelled (sound_check text sound h) h.core;
        printable = printable sound.core formed;
        words = λ w wire at. (formed.frame.wires w wire at).written.words;
      }

  pub rewritten_frame : (script : List ℕ) (new : Core) → scripted sound.core script ≡ Ok new → HasSoundFrame new
  rewritten_frame script new made = (still_formed sound.core new script (sound_formed text sound h) made).frame
