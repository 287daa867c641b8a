-- Why serving ends, by why no more comes, or no more is written.
use Rattle.lsm_io.specs.declared.sink.SinkError.{SinkError}
use Rattle.lsm_io.specs.declared.sink.SinkError.TheVariants as sink
use Rattle.lsm_io.specs.declared.source.SourceError.{SourceError}
use Rattle.lsm_io.specs.declared.source.SourceError.TheVariants as source
use Rattle.lsm_serve.specs.declared.error.ServeError.{ServeError}
use Rattle.lsm_serve.specs.declared.error.ServeError.TheVariants as serve

-- why serving ends, if no more can be read for this reason
abbrev pub error_of_source : SourceError → ServeError
error_of_source source.ReadFault = serve.ReadFault
error_of_source source.NoEnd = serve.NoEnd
error_of_source source.OutOfMemory = serve.OutOfMemory

-- why serving ends, if no more can be written for this reason
abbrev pub error_of_sink : SinkError → ServeError
error_of_sink sink.WriteFault = serve.WriteFault
error_of_sink sink.NoEnd = serve.NoEnd
