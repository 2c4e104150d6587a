-- `build::build` meets its contract: what is given is complete where it is given as it should be.
use Rattle.build.proofs.BuildLaws.{complete_of}
use Rattle.build.proofs.build.Goals as goal

pub build_spoken-requires : goal.build_spoken-requires
build_spoken-requires c =
    let a = c.args in
    complete_of a.numbers.now a.runs a.first.now a.second.now c.of-given.result c.of-given.ensures
