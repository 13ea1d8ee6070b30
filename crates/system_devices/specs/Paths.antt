-- The path with which a device was opened: it is told to a person, and read by contracts.
use Rattle.std.specs.Prelude.{ℕ, List}
use Rattle.system_devices.specs.declared.files.InputSource.{InputSource}
use Rattle.system_devices.specs.declared.files.PlaceStore.{PlaceStore}
use Rattle.system_devices.specs.declared.sinks.OutputSink.{OutputSink}

abbrev pub path_of_source : {R : Type 0} → InputSource R → List ℕ
path_of_source source = source.path.now

abbrev pub path_of_store : {F : Type 0} → PlaceStore F → List ℕ
path_of_store store = store.path.now

abbrev pub path_of_sink : {W : Type 0} → OutputSink W → List ℕ
path_of_sink sink = sink.path.now
