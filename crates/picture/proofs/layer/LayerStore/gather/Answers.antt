use Rattle.std.proofs.Common.{◌<◌, length, get_or, sym, ap, ◌∙◌, arith}
use Rattle.std.proofs.lemmas.Bool.{cond-true}
use Rattle.std.proofs.lemmas.Bool.Decides.{nat_tests}
use Rattle.geometry.specs.Places.{inside}
use Rattle.picture.specs.Lines.{stepped}
use Rattle.picture.proofs.MovedLines.{along_below, start_fits}
use Rattle.picture.proofs.layer.LayerStore.gather.Goals as goal

pub moved-start-requires : goal.moved-start-requires
moved-start-requires g c =
    let s = c.args.self.now in
    let view = g.V.LayerView.view s.view in
    let shifts = g.V.LayerView.shifts s.view c.in-Some.corner (sym c.in-Some.ensures) in
    let empty = c.if-not-is_empty.ensures in
    let some : 0 < length c.args.steps.now = grind (arith, nat_tests) in
    let fits = start_fits view c.in-Some.corner shifts (g.S.Store.shown s.below) (g.V.LayerView.inner s.view) (g.S.Store.sound s.below)
    c.args.track (get_or c.args.steps.now 0 0) (c.requires.within 0 some) in
    record { across = fits.0; down = fits.1 }

pub gather-requires : goal.gather-requires
gather-requires g c =
    let s = c.args.self.now in
    let p = g.S.Store.shown s.below in
    let shifts = g.V.LayerView.shifts s.view c.in-Some.corner (sym c.in-Some.ensures) in
    let track = c.args.track in
    let steps = c.args.steps.now in
    record {
      long = c.requires.long;
      within = λ i h.
          ap (inside p.sides)
          (along_below c.in-Some.corner track _ (get_or steps i 0) (ap (λ a. record { start = a; down = track.down }) c.moved-start.ensures)
          ∙ sym (shifts p.sides (stepped track steps i)))
          ∙ g.V.LayerView.inner s.view p.sides (stepped track steps i) (c.requires.within i h);
    }

pub returns-in-Some : goal.returns-in-Some
returns-in-Some g c =
    let s = c.args.self.now in
    let p = g.S.Store.shown s.below in
    let shifts = g.V.LayerView.shifts s.view c.in-Some.corner (sym c.in-Some.ensures) in
    let track = c.args.track in
    let steps = c.args.steps.now in
    λ i h.
    c.gather.ensures i h
    ∙ ap p.at
    (along_below c.in-Some.corner track _ (get_or steps i 0) (ap (λ a. record { start = a; down = track.down }) c.moved-start.ensures)
    ∙ sym (shifts p.sides (stepped track steps i)))
    ∙ sym (cond-true _ _ _ (c.requires.within i h))
