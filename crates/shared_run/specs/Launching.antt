-- Where a run begins that is started with this.
use Rattle.shared_run.specs.Story.{Origin, origin}
use Rattle.shared_run.specs.declared.launch.Launch.{Launch}

abbrev pub start_of : Launch → Origin
start_of launch = origin launch.verified.now launch.arguments.now launch.memory launch.workers
