use Rattle.hp_top.proofs.paging.tell_before_this.Given as goal

-- the page is put before the sink as it is now
abbrev pub ghosts-tell_before : goal.ghosts-tell_before
ghosts-tell_before g a = record { taken = g.K.Sink.bytes a.sink }
