-- Plans that are ready stay so, and have faithful code.
use Rattle.std.proofs.Common.{◌∙◌}
use Rattle.law_reuse.proofs.Bounds.{code_uses_again}
use Rattle.law_fresh_frames.specs.FreshReady.{ReadyStays, ReadyCodeIsFaithful}
use Rattle.law_fresh_frames.proofs.Alike.{alike_is_faithful}
use Rattle.law_fresh_frames.proofs.Bounded.{orderly_is_bounded}
use Rattle.law_fresh_frames.proofs.FreshFaith.{once_suffices}

pub ready_stays : ReadyStays
ready_stays fl p q K sound tidy arrays bounds inputs r = record {
  sound = sound;
  tidy = tidy;
  orderly = K.orderly;
  lands = K.lands;
  bounds = K.bounds r.bounds;
  takes = inputs ∙ r.takes;
  faithful = alike_is_faithful fl p q arrays bounds inputs K.alike (inputs ∙ r.takes) r.faithful;
}

pub ready_code_is_faithful : ReadyCodeIsFaithful
ready_code_is_faithful fl p slots r few good = record {
  faithful = once_suffices fl p slots r.faithful (orderly_is_bounded p r.orderly few) r.orderly r.sound.wired good r.takes;
  again = code_uses_again fl p slots r.orderly r.sound.wired good r.takes r.bounds;
}
